-- What is kept of one key, and who may use it.
use Rattle.std.specs.Prelude.{◌==◌, ℕ, ◌%◌, ◌^◌, ◌&&◌, Bool, None}
use Rattle.proxy_outside.specs.declared.addr.Addr.{Addr}
use Rattle.proxy_outside.specs.declared.identity.ClientKey.{ClientKey}
use Rattle.proxy_outside.specs.declared.identity.SessionNo.{SessionNo}
use Rattle.proxy_outside.specs.Addr.{is_same_addr}
use Rattle.cancel_keys.specs.declared.given.Given.{Given}

-- the low 32 bits of a word
abbrev pub secret_of : ℕ → ℕ
secret_of word = word % 2 ^ 32

-- the key as the client has it
abbrev pub key_of : SessionNo → ℕ → ClientKey
key_of session word = record { process = session.0; secret = secret_of word }

-- a key that stands for nothing yet
abbrev pub fresh : Addr → ℕ → Given
fresh addr word = record { addr = addr; secret = secret_of word; target = None }

-- the secret and the address agree
abbrev pub opens : Given → ℕ → Addr → Bool
opens g secret addr = g.secret == secret && is_same_addr g.addr addr
