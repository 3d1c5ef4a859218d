-- The types of the messages of an accepted reply.
use Rattle.std.proofs.Common.{◌≡◌, ℕ, Bool, true, false, List, [], ◌∷◌, length, Option, Some, None, refl, ap, ◌∙◌}
use Rattle.std.specs.Prelude.{◌==◌, ◌&&◌, if◌then◌else◌}
use Rattle.std.proofs.lemmas.Bool.{and_parts, eqb-true}
use Rattle.pgw_frames.specs.declared.frame.Frame.{Frame}
use Rattle.pgw_messages.specs.declared.params.Pair.{Pair}
use Rattle.session_model.specs.declared.transfer.TransferKey.{TransferKey}
use Rattle.transfer_stages.specs.Accepts.{AcceptsOld, FitsReady}
use Rattle.transfer_stages.specs.Exchange.{said, transfer_names}
use Rattle.transfer_stages.specs.Rows.{columns_of, have_names, has_names, row_of}
use Rattle.pgw_messages.specs.declared.backend.columns.Column.{Column}
use Rattle.transfer_stages.specs.declared.stage.Said.{Said}
use Rattle.transfer_stages.specs.declared.stage.Said.TheVariants.{Given, Refuses}
use Rattle.link_transfer.specs.Telling.{tags, all_dues}

-- a test that begins with the type
first_tag : (f : Frame) (n : ℕ) (b : Bool) → ((f.tag == n) && b) ≡ true → f.tag ≡ n
first_tag f n b e = eqb-true f.tag n (and_parts (f.tag == n) b e).0

named_by : (b : Bool) (names : List (List ℕ)) (columns : Option (List Column)) → have_names names (if b then columns else None) ≡ true → b ≡ true
named_by true names columns e = refl
named_by false names columns e = absurd cc

columns_tag : (names : List (List ℕ)) (f : Frame) → has_names names f ≡ true → f.tag ≡ 84
unfolding columns_of
columns_tag names f e = eqb-true f.tag 84 (named_by (f.tag == 84) names _ e)

row_by : (b : Bool) (t : TransferKey) (p : List Pair) (vs : Option (List (Option (List ℕ)))) (s : Said) → said t p (if b then vs else None) ≡ Some s → b ≡ true
row_by true t p vs s e = refl
row_by false t p vs s e = absurd cc

row_tag : (t : TransferKey) (p : List Pair) (f : Frame) (s : Said) → said t p (row_of f) ≡ Some s → f.tag ≡ 68
unfolding row_of
row_tag t p f s e = eqb-true f.tag 68 (row_by (f.tag == 68) t p _ s e)

ready_tag : (s : Said) (f : Frame) → FitsReady s f → f.tag ≡ 90
ready_tag (Given state token) f e = first_tag f 90 _ e
ready_tag (Refuses reason) f e = first_tag f 90 _ e

four : (a b c d : Frame) → a.tag ≡ 84 → b.tag ≡ 68 → c.tag ≡ 67 → d.tag ≡ 90 → tags (a ∷ b ∷ c ∷ d ∷ []) ≡ all_dues
four a b c d p q r s = rw (p, q, r, s) refl

pub accepted_tags : (t : TransferKey) (p : List Pair) (fs : List Frame) (s : Said) → AcceptsOld t p fs s → tags fs ≡ all_dues
accepted_tags t p fs s a = ap tags a.whole ∙ four a.columns a.values a.tag a.ready (columns_tag transfer_names a.columns a.named) (row_tag t p a.values s a.says) (first_tag a.tag 67 _ a.ends) (ready_tag s a.ready a.fits)
