use Rattle.std.proofs.Common.{ℕ, List, subst}
use Rattle.settings_reread.specs.Rereading.{NewsBy}
use Rattle.settings_reread.proofs.News.{whole_case}
use Rattle.settings_reread.proofs.last_text.LastText.reread.Goals as goal

pub returns-in-All : goal.returns-in-All
returns-in-All g c =
    let t = rw c.in-All.is at c.read_text.ensures.text in (
      t.0,
      t.1,
      whole_case c.news.result c.args.self.now c.news.new.self (g.S.Source.origin c.args.source.now) (g.S.Source.origin c.read_text.new.source) t.0 t.2.1 (subst (λ (b : List ℕ). NewsBy c.news.result c.args.self.now c.news.new.self b) t.2.0 c.news.ensures),
    )
