-- What a link of the program stands for.
use Rattle.std.specs.Prelude.{◌≡◌, ◌≤◌, ◌-◌, ℕ, nat_lt, List, [], length, take, drop, Option, Some, None, option_map, if◌then◌else◌}
use Rattle.pgw_frames.specs.declared.frame.Frame.{Frame}
use Rattle.proxy_outside.specs.Rules.{Rules}
use Rattle.pgw_messages.specs.declared.params.Pair.{Pair}
use Rattle.session_model.specs.Kind.{Kind}
use Rattle.session_model.specs.Solo.{store_after}
use Rattle.processor_core.specs.Streams.{Cuts}
use Rattle.forwarder_world.specs.Link as model
pub use Rattle.forwarder_world.specs.Link.{taken_by}
use Rattle.forwarder_core.specs.Carries.{Carries}
use Rattle.forwarder_core.specs.declared.channel.Channel.{Channel}
use Rattle.forwarder_core.specs.declared.link.Link.{Link}

-- so many messages were handed out of a stream
abbrev pub Hands : Channel → List ℕ → ℕ → ℕ → Type 0
Hands c stream at count = (handed : List Frame) × (length handed ≡ count) × Carries c stream at handed

-- of the bytes that were read of a link these are in no message that was handed out
abbrev pub Reads : {S : Type 0} → model.Link S → List ℕ → Type 0
Reads m held = (handed : List Frame) × (length handed ≡ m.out) × Cuts handed held (take m.back m.got)

pub record LinkStands {X Y C R S : Type 0} (state : X → S) (l : Link X Y C R) (m : model.Link S) (held : List ℕ) : Type 0 where
  pub startup : l.startup ≡ nat_lt 0 (length m.startup)
  pub unopened : l.unopened ≡ length m.startup - m.delivered
  pub pod : Hands l.pod m.sent (m.delivered - length m.startup) m.taken
  pub bound : m.back ≤ length m.got
  pub replies : l.replies ≡ drop m.back m.got
  pub reads : Reads m held
  pub session : option_map state l.session ≡ m.session
  pub cut : l.cut ≡ m.cut

-- each link that old stands for leads to one that new stands for
abbrev pub LinkLeads : {X Y C R S : Type 0} → (X → S) → Link X Y C R → Link X Y C R → (model.Link S → model.Link S) → Type 0
LinkLeads {X} {Y} {C} {R} {S} state old new f = (m : model.Link S) (held : List ℕ) → LinkStands state old m held → LinkStands state new (f m) held

-- a link that is not cut goes on
abbrev pub unless_cut : {S : Type 0} → (model.Link S → model.Link S) → model.Link S → model.Link S
unless_cut f m = if m.cut then m else f m

-- nothing was sent on the link
pub record IsUnsent {S : Type 0} (m : model.Link S) : Type 0 where
  pub no_startup : m.startup ≡ []
  pub no_message : m.sent ≡ []
  pub none_delivered : m.delivered ≡ 0

-- the pod takes what is next, where it can
abbrev pub listens : {S T C R : Type 0} → Kind S C R → Rules T C R → model.Link S → T → Option S → Option Frame → model.Link S × T
listens k rules m t None f = (m, t)
listens k rules m t (Some s) None = (m, t)
listens k rules m t (Some s) (Some f) = (model.hears k rules m s t f, store_after rules t (k.asks s f))

abbrev pub hearing : {S T C R : Type 0} → Kind S C R → Rules T C R → model.Link S → T → model.Link S × T
hearing k rules m t = listens k rules m t m.session (model.next_to_pod m)

-- the pod takes the startup packet, or behind it what is next
abbrev pub opens_or_hears : {S T C R : Type 0} → Kind S C R → Rules T C R → List Pair → model.Link S → T → Option S → model.Link S × T
opens_or_hears k rules p m t None = (model.begins k p m, t)
opens_or_hears k rules p m t (Some s) = listens k rules m t (Some s) (model.next_to_pod m)

-- the same of a pod that may be cut off
abbrev pub turn : {S T C R : Type 0} → Kind S C R → Rules T C R → List Pair → model.Link S → T → model.Link S × T
turn k rules p m t = if m.cut then (m, t) else opens_or_hears k rules p m t m.session

-- the link to a new pod, where there is one; all that was read of it was handed out
abbrev pub FreshStands : {X Y C R S : Type 0} → (X → S) → Option (Link X Y C R) → Option (model.Link S) → Type 0
FreshStands state None None = Unit {0}
FreshStands state None (Some m) = ⊥
FreshStands state (Some l) None = ⊥
FreshStands state (Some l) (Some m) = LinkStands state l m []
