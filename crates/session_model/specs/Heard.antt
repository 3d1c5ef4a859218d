-- What a client hears: the greeting with the client's key, and then the replies.
use Rattle.std.specs.Prelude.{◌==◌, Bool, false, ◌||◌, ℕ, List, [], ◌∷◌, ◌++◌, map, if◌then◌else◌}
use Rattle.pgw_frames.specs.declared.frame.Frame.{Frame}
use Rattle.pgw_frames.specs.Frames.{render}
use Rattle.pgw_messages.specs.declared.params.Pair.{Pair}
use Rattle.pgw_messages.specs.Backend.{key_bytes}
use Rattle.pgw_messages.specs.Tags as tag
use Rattle.proxy_outside.specs.declared.identity.ClientKey.{ClientKey}
use Rattle.session_model.specs.Kind.{Kind}

-- the body of a BackendKeyData with the client's key
abbrev pub key_body : ClientKey → List ℕ
key_body key = key_bytes (record { process = key.process; secret = key.secret })

abbrev pub with_key : ClientKey → Frame → Frame
with_key key f = if f.tag == tag.backend_key_data then record { tag = f.tag; body = key_body key } else f

-- whether a ReadyForQuery is among them
abbrev pub has_ready : List Frame → Bool
has_ready [] = false
has_ready (f ∷ fs) = (f.tag == tag.ready_for_query) || has_ready fs

-- a greeting with the client's key
abbrev pub greeting : {S C R : Type 0} → Kind S C R → ClientKey → List Pair → List Frame
greeting k key p = map (with_key key) (k.begins p).1

abbrev pub heard : {S C R : Type 0} → Kind S C R → ClientKey → List Pair → List Frame → List ℕ
heard k key p fs = render (greeting k key p) ++ render fs
