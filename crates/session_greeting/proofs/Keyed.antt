-- A key message that is passed on.
use Rattle.std.proofs.Common.{◌≡◌, ℕ, Bool, List, refl, sym, ap, ◌∙◌, subst}
use Rattle.pgw_frames.specs.Frames.{frame_bytes}
use Rattle.pgw_frames.specs.declared.frame.Frame.{Frame}
use Rattle.pgw_messages.specs.Tags as tag
use Rattle.proxy_outside.specs.Writing.{Target}
use Rattle.proxy_outside.specs.declared.identity.ClientKey.{ClientKey}
use Rattle.session_model.specs.Heard.{key_body, with_key}
use Rattle.link_io.specs.Writing.{WritesAll}
use Rattle.session_greeting.specs.Meanings.{key_message}

keyed : (key : ClientKey) (t : ℕ) (b : List ℕ) → t ≡ tag.backend_key_data → record { tag = tag.backend_key_data; body = key_body key } ≡ with_key key (record { tag = t; body = b })
keyed key t b e = subst (λ (n : ℕ). record { tag = tag.backend_key_data; body = key_body key } ≡ with_key key (record { tag = n; body = b })) (sym e) refl

pub key_passed : (key : ClientKey) (f : Frame) (k l : Target) (whole : Bool) (message : List ℕ) → f.tag ≡ tag.backend_key_data → message ≡ key_message key → WritesAll whole k l message → WritesAll whole k l (frame_bytes (with_key key f))
key_passed key f k l whole message e is w = subst (λ (v : List ℕ). WritesAll whole k l v) (is ∙ ap frame_bytes (keyed key f.tag f.body e)) w
