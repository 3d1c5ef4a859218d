use Rattle.std.proofs.Common.{inl, inr}
use Rattle.session_trace.proofs.Calling.{fits_of}
use Rattle.session_trace.proofs.Landed.{kept_laws, Kept}
use Rattle.session_trace.proofs.Login.{headline}
use Rattle.session_trace.proofs.OnRecords.{honest_records}
use Rattle.session_trace.proofs.ToldAll.{told_frames}
use Rattle.session_trace.proofs.laws.headline.Goals as goal

pub returns : goal.returns
returns g c = record {
  call = λ p c t pods fits honest. record {
    body = fits.given.body;
    is = fits.given.is;
    either = elim fits.given.either [
      | inl passed ↦ inl (
          headline g.S.Session.kind g.S.Store.Machine.rules (Kept g.S.Session.kind g.S.Store.Machine.rules g.S.Session.kept g.met.S.Session.laws)
          (kept_laws g.S.Session.kind g.S.Store.Machine.rules g.S.Session.kept g.met.S.Session.laws) p c.route c.key c.why.exchange_cut fits.given.body t pods (fits_of c t fits.given.body fits passed)
          (honest_records g.S.Session.kind g.S.Store.Machine.rules p t pods fits.bytes honest)
          )
      | inr rejected ↦ inr rejected
    ];
  };
  begins = λ p route key cut given t pods fits bytes honest.
      headline g.S.Session.kind g.S.Store.Machine.rules (Kept g.S.Session.kind g.S.Store.Machine.rules g.S.Session.kept g.met.S.Session.laws)
      (kept_laws g.S.Session.kind g.S.Store.Machine.rules g.S.Session.kept g.met.S.Session.laws) p route key cut given t pods fits
      (honest_records g.S.Session.kind g.S.Store.Machine.rules p t pods bytes honest);
  told = told_frames;
}
