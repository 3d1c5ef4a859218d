-- The record of a link that was hung up.
use Rattle.std.proofs.Common.{◌≡◌, ◌⊎◌, Bool, true, ℕ, List, [], ◌∷◌, Option, ap, ◌∙◌}
use Rattle.proxy_links.specs.Links.{Links, LinkRecord, record_of, counts_of, hung}
use Rattle.proxy_links.specs.Told.{push, blank}
use Rattle.pgw_messages.specs.declared.params.Pair.{Pair}
use Rattle.proxy_outside.specs.Reading.{Origin}
use Rattle.proxy_outside.specs.Writing.{Target}
use Rattle.proxy_outside.specs.declared.place.Place.{Place}
use Rattle.link_transfer.specs.Transfers.{Trial}
use Rattle.session_trace.specs.Trials.{IsTrial, ShowsWhy}
use Rattle.session_moves.proofs.Lists.{hung_told}
use Rattle.session_moves.proofs.OnNewLink.{OnLink}
use Rattle.session_moves.proofs.Shown.{ShowsBy}

-- a link was tried and hung up; its record
pub record Tried (p : List Pair) (patience : ℕ) (starved : Bool) (links links' : Links) : Type 0 where
  pub one : LinkRecord
  pub trial : IsTrial p one
  pub why : (starved ≡ true) ⊎ ShowsWhy patience one
  pub records : links'.records ≡ push links.records (one ∷ [])

pub trial_told : (p : List Pair) (patience : ℕ) (starved : Bool) (state token : List ℕ) (P : Target → Target → Origin → Origin → Type 0) (at : Place) (links links' : Links) (t : Trial P at links links') → (o : OnLink p state token t.fresh t.tx t.source t.rx) → (starved ≡ true) ⊎ ShowsBy patience (counts_of t.tx t.rx) o.got → Tried p patience starved links links'
trial_told p patience starved state token P at links links' t o why =
    let told = ap (λ (l : Links). l.records) t.hung.others in
    let same : t.between.records ≡ links.records = ap (λ (l : Links). l.records) t.came.others in
    let sent : t.tx.contents ≡ push (blank links.records) o.sent = o.wrote.contents ∙ ap (λ (k : Target). push k.contents o.sent) t.came.tx in
    let got : t.rx.taken ≡ push (blank links.records) o.got = o.read.taken ∙ ap (λ (s : Origin). push s.taken o.got) t.came.rx in
    let r : List ℕ → List ℕ → LinkRecord = record_of t.rx.link t.hung.place (counts_of t.tx t.rx) in
    record {
      one = r o.sent o.got;
      why = why;
      trial = record { token = token; state = state; sent = o.begins };
      records = told ∙ ap (λ (v : Option (List LinkRecord)). hung v r t.tx.contents t.rx.taken) same ∙ hung_told links.records r o.sent o.got t.tx.contents t.rx.taken sent got;
    }
