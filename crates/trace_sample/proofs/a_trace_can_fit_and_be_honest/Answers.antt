use Rattle.trace_sample.proofs.Fitting.{sample_fits, sample_honest, sample_said}
use Rattle.trace_sample.proofs.a_trace_can_fit_and_be_honest.Goals as goal

pub returns : goal.returns
returns c = record { fits = sample_fits; honest = sample_honest; all_said = sample_said }
