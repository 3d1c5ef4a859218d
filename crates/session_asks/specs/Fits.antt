-- What of a call's asks and dials fits its trace: one record for a session, one for a CancelRequest.
use Rattle.std.specs.Prelude.{◌≡◌, ◌⊎◌, ℕ, false, List, [], ◌∷◌, ◌++◌, Option, Some, None}
use Rattle.pgw_frames.specs.Frames.{Begins}
use Rattle.pgw_messages.specs.declared.params.Pair.{Pair}
use Rattle.pgw_messages.specs.declared.pod_key.PodKey.{PodKey}
use Rattle.proxy_outside.specs.declared.addr.Addr.{Addr}
use Rattle.proxy_outside.specs.declared.identity.ClientKey.{ClientKey}
use Rattle.proxy_links.specs.Links.{LinkRecord}
use Rattle.proxy_links.specs.declared.dialer.Dial.{Dial}
use Rattle.proxy_hub.specs.declared.command.HubCommand.{HubCommand}
use Rattle.proxy_hub.specs.declared.command.HubCommand.TheVariants.{Find}
use Rattle.proxy_hub.specs.declared.reply.HubReply.{HubReply}
use Rattle.proxy_hub.specs.declared.reply.HubReply.TheVariants.{Found, NoKey}
use Rattle.link_io.specs.Reading.{RoseBy}
use Rattle.session_trace.specs.Trace.{Opening, Round}
use Rattle.session_asks.specs.Asks.{Ask, ask, answered, refused, moments_in, words_in}
use Rattle.session_asks.specs.Dialing.{dials_in, DialsInRounds, DrawsInRounds}
use Rattle.session_asks.specs.Admission.{Client, AsksHub}

-- what a call shows of its hub, its dialer, its clock and its words, each as what was added
pub record Outside : Type 0 where
  pub asked : List (HubCommand × HubReply)
  pub refused_before : ℕ  -- how many asks the port had refused before this call, and by its end
  pub refused_now : ℕ
  pub dials : List Dial
  pub moments : List ℕ
  pub words : List ℕ

-- these asks were made: the hub's list has those that it answered, and the port refused at least as many as are missing
pub record IsAsked (o : Outside) (as_ : List Ask) : Type 0 where
  pub listed : o.asked ≡ answered as_
  pub missing : RoseBy o.refused_before (refused as_) o.refused_now

-- a call for a session
pub record FitsHub (p : List Pair) (c : Client) (o : Outside) (opened : Option Opening) (rs : List Round) : Type 0 where
  pub asks : List Ask
  pub asked : IsAsked o asks
  pub first_dials : List Dial
  pub asks_hub : AsksHub c first_dials opened rs asks
  pub dials : o.dials ≡ first_dials ++ dials_in rs
  pub dials_it : DialsInRounds p rs
  pub moments : o.moments ≡ moments_in asks
  pub later_words : List ℕ
  pub words : o.words ≡ words_in asks ++ later_words
  pub draws : DrawsInRounds rs later_words

-- ---- a CancelRequest

-- no link came, or the request went to it, whole where no count of the link rose
pub record Sends (request : List ℕ) (d : Dial) (records : List LinkRecord) : Type 0 where
  pub came : (d.came ≡ false) ⊎ ((l : LinkRecord) × (records ≡ l ∷ []) × Begins l.sent request × ((l.sent ≡ request) ⊎ (l.counts.tx_faults ≡ 0 → ⊥)))

-- by the answer to Find: the place that the key stands for is dialed
abbrev pub AfterFind : (PodKey → List ℕ) → List Dial → List LinkRecord → Option HubReply → Type 0
AfterFind request dials records (Some (Found place key)) = (d : Dial) × (dials ≡ d ∷ []) × (d.place ≡ place) × Sends (request key) d records
AfterFind request dials records (Some NoKey) = (dials ≡ []) × (records ≡ [])
AfterFind request dials records (Some _) = ⊥
AfterFind request dials records None = (dials ≡ []) × (records ≡ [])

-- a call for a cancel: Find alone is asked
pub record FitsCancel (request : PodKey → List ℕ) (peer : Addr) (key : ClientKey) (o : Outside) (records : List LinkRecord) : Type 0 where
  pub reply : Option HubReply
  pub asked : IsAsked o (ask (Find key peer) reply ∷ [])
  pub behind : AfterFind request o.dials records reply
  pub moments : o.moments ≡ []
  pub words : o.words ≡ []

-- a call that asked for nothing that can be had
pub record FitsRefused (o : Outside) : Type 0 where
  pub asked : o.asked ≡ []
  pub dials : o.dials ≡ []
  pub moments : o.moments ≡ []
  pub words : o.words ≡ []
