-- What a client is told that isn't served (PostgreSQL manual, "Message Formats", ErrorResponse).
use Rattle.std.specs.Prelude.{◌≡◌, Bool, true, false}
use Rattle.pgw_frames.specs.Frames.{frame_bytes}
use Rattle.proxy_outside.specs.Writing.{Target}
use Rattle.link_io.specs.Writing.{WritesAll}
use Rattle.startup_route.specs.Rejections.{frame_of}
use Rattle.startup_route.specs.declared.rejection.Rejection.{Rejection}

-- the one message was written, or a part of it where the sink failed
abbrev pub IsTold : Rejection → Target → Target → Type 0
IsTold why k l = (whole : Bool) × WritesAll whole k l (frame_bytes (frame_of why))

abbrev pub Tells : Rejection → Target → Target → Bool → Type 0
Tells why k l true = IsTold why k l
Tells why k l false = l ≡ k
