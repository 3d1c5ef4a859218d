-- A state that has no blob.
use Rattle.std.specs.Prelude.{◌≡◌, Bool, true, false, codes}
use Rattle.session_blob.specs.declared.fault.BlobFault.{BlobFault}
use Rattle.session_blob.specs.declared.fault.BlobFault.TheVariants.{NoMemory}
use Rattle.session_model.specs.declared.transfer.Dump.{Dump}
use Rattle.session_model.specs.declared.transfer.Dump.TheVariants.{Not}

abbrev pub is_memory : BlobFault → Bool
is_memory NoMemory = true
is_memory e = false

-- the fault is none of memory, and this is told
pub record HasNoBlob (e : BlobFault) (d : Dump) : Type 0 where
  pub fault : is_memory e ≡ false
  pub told : d ≡ Not (codes "session state is too large")
