use Rattle.settings_check.proofs.check.answer.Goals as goal

pub returns-then-write_all : goal.returns-then-write_all
returns-then-write_all g c = (
  record {
    settings = c.in-Ok.settings;
    bytes = c.as_bytes.result.now;
    read = c.in-Ok.ensures;
    answer = rw c.as_bytes.ensures.value c.in-Ok-answer.ensures;
  },
  c.if-write_all.ensures,
)

pub returns : goal.returns
returns g c = (
  record {
    settings = c.in-Ok.settings;
    bytes = c.as_bytes.result.now;
    read = c.in-Ok.ensures;
    answer = rw c.as_bytes.ensures.value c.in-Ok-answer.ensures;
  },
  c.if-write_all.ensures,
)
