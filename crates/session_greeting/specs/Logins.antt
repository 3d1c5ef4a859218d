-- A message of the client's login (PostgreSQL manual, "Message Flow", Start-up).
use Rattle.std.specs.Prelude.{◌≡◌, ◌≢◌, ℕ, Result, Ok, Err}
use Rattle.pgw_frames.specs.Frames.{frame_bytes}
use Rattle.pgw_frames.specs.declared.frame.Frame.{Frame}
use Rattle.pgw_messages.specs.Tags as tag
use Rattle.proxy_outside.specs.Reading.{Origin}
use Rattle.proxy_outside.specs.Writing.{Target}
use Rattle.link_io.specs.Writing.{Wrote, WroteSome}
use Rattle.link_transfer.specs.Hearing.{Comes, Drops, Breaks}
use Rattle.transfer_stages.specs.declared.stage.Cut.{Cut}
use Rattle.transfer_stages.specs.declared.stage.Cut.TheVariants.{ReadFault, WriteFault, Ended, BadLength, Unexpected, Strayed, Late}
use Rattle.session_greeting.specs.declared.login.Greeted.{Greeted}
use Rattle.session_greeting.specs.declared.login.Greeted.TheVariants.{Ready, Refused, Left, PodCut, ClientCut, NoMemory}

-- this message came, and was sent on
pub record Sends (g : Frame) (before after patience : ℕ) (old new : Origin) (k l : Target) : Type 0 where
  pub comes : Comes g before after patience old new
  pub wrote : Wrote k l (frame_bytes g)

-- one came, and not all of it could be sent on
pub record SendsSome (before patience : ℕ) (old new : Origin) (k l : Target) : Type 0 where
  pub message : Frame
  pub after : ℕ
  pub comes : Comes message before after patience old new
  pub wrote : WroteSome k l (frame_bytes message)

-- one came for which there is no memory
pub record Loses (before patience : ℕ) (old new : Origin) (k l : Target) : Type 0 where
  pub tag : ℕ
  pub after : ℕ
  pub drops : Drops tag before after patience old new
  pub silent : l ≡ k

abbrev pub CutsPod : Cut → ℕ → ℕ → Origin → Origin → Target → Target → Type 0
CutsPod WriteFault before patience old new k l = SendsSome before patience old new k l
CutsPod ReadFault before patience old new k l = ⊥
CutsPod Ended before patience old new k l = ⊥
CutsPod (BadLength n) before patience old new k l = ⊥
CutsPod (Unexpected f) before patience old new k l = ⊥
CutsPod (Strayed g) before patience old new k l = ⊥
CutsPod (Late n) before patience old new k l = ⊥

abbrev pub LogsIn : ℕ → ℕ → Origin → Origin → Target → Target → Result ℕ Greeted → Type 0
LogsIn before patience old new k l (Ok after) = (g : Frame) × Sends g before after patience old new k l × (g.tag ≢ tag.terminate)
LogsIn before patience old new k l (Err Left) = (g : Frame) × (after : ℕ) × Sends g before after patience old new k l × (g.tag ≡ tag.terminate)
LogsIn before patience old new k l (Err (PodCut c)) = CutsPod c before patience old new k l
LogsIn before patience old new k l (Err (ClientCut c)) = Breaks c before patience old new × (l ≡ k)
LogsIn before patience old new k l (Err NoMemory) = Loses before patience old new k l
LogsIn before patience old new k l (Err (Ready key waits)) = ⊥
LogsIn before patience old new k l (Err (Refused fields)) = ⊥
