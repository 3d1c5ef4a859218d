-- What the ends of both legs say of a session's end.
use Rattle.std.proofs.Common.{◌≡◌, ◌⊎◌, Bool, true, false, inl, inr, refl, sym}
use Rattle.std.specs.Prelude.{if◌then◌else◌}
use Rattle.session_legs.specs.declared.side.LegEnd.{LegEnd}
use Rattle.session_legs.specs.declared.side.LegEnd.TheVariants.{Parked, Over, Terminated, Ended, Cut, Bad, ReadFault, WriteFault, NoMemory}
use Rattle.session_trace.specs.Looks.{IsLook}
use Rattle.session_rounds.specs.Turns.{is_look}
use Rattle.session_course.specs.Course.{is_exchange}
use Rattle.session_course.specs.declared.course.Finish.{Finish}
use Rattle.session_course.specs.declared.course.Finish.TheVariants.{Legs, Exchange}
use Rattle.proxy_session.specs.Why.{by_request, by_response, by_legs, by_finish}
use Rattle.proxy_session.specs.Why as by
use Rattle.proxy_session.specs.declared.why.Why.{Why}
use Rattle.proxy_session.specs.declared.why.Why.TheVariants as why
use Rattle.call_laws.specs.Served.{is_bye, is_pod_ended, is_exchange_cut}

-- by the client's leg where no look ended it, and else so
abbrev by_first : LegEnd → Why → Why
by_first w x = if is_look w then x else by_request w

-- ---- the pod's end

-- it is told only where a look ended the client's leg
pub pod_end : (w : LegEnd) (x : Why) → is_pod_ended (by_first w x) ≡ true → IsLook w
pod_end Parked x e = tt
pod_end Over x e = tt
pod_end Terminated x e = absurd (cc)
pod_end Ended x e = absurd (cc)
pod_end Cut x e = absurd (cc)
pod_end (Bad n) x e = absurd (cc)
pod_end ReadFault x e = absurd (cc)
pod_end WriteFault x e = absurd (cc)
pod_end NoMemory x e = absurd (cc)

pub no_pod_end : (w : LegEnd) (x : Why) → is_pod_ended x ≡ false → is_pod_ended (by_first w x) ≡ false
no_pod_end Parked x e = e
no_pod_end Over x e = e
no_pod_end Terminated x e = refl
no_pod_end Ended x e = refl
no_pod_end Cut x e = refl
no_pod_end (Bad n) x e = refl
no_pod_end ReadFault x e = refl
no_pod_end WriteFault x e = refl
no_pod_end NoMemory x e = refl

-- ---- the client's farewell

bye_first : (short : Bool) (w : LegEnd) (x : Why) → is_bye x ≡ false → is_bye (if short then why.NoMemory else by_first w x) ≡ true → (w ≡ Terminated) ⊎ (w ≡ Ended)
bye_first true w x never e = absurd (cc)
bye_first false Parked x never e = absurd (cc)
bye_first false Over x never e = absurd (cc)
bye_first false Terminated x never e = inl refl
bye_first false Ended x never e = inr refl
bye_first false Cut x never e = absurd (cc)
bye_first false (Bad n) x never e = absurd (cc)
bye_first false ReadFault x never e = absurd (cc)
bye_first false WriteFault x never e = absurd (cc)
bye_first false NoMemory x never e = absurd (cc)

no_bye : (w : LegEnd) → is_bye (by_response w) ≡ false
no_bye Parked = refl
no_bye Over = refl
no_bye Terminated = refl
no_bye Ended = refl
no_bye Cut = refl
no_bye (Bad n) = refl
no_bye ReadFault = refl
no_bye WriteFault = refl
no_bye NoMemory = refl

pub bye_by : (w w' : LegEnd) → is_bye (by_legs w w') ≡ true → (w ≡ Terminated) ⊎ (w ≡ Ended)
bye_by w w' e = bye_first (by.is_no_memory w') w (by_response w') (no_bye w') e

-- ---- a failed exchange

no_cut_first : (short : Bool) (w : LegEnd) (x : Why) → is_exchange_cut x ≡ false → is_exchange_cut (if short then why.NoMemory else by_first w x) ≡ false
no_cut_first true w x never = refl
no_cut_first false Parked x never = never
no_cut_first false Over x never = never
no_cut_first false Terminated x never = refl
no_cut_first false Ended x never = refl
no_cut_first false Cut x never = refl
no_cut_first false (Bad n) x never = refl
no_cut_first false ReadFault x never = refl
no_cut_first false WriteFault x never = refl
no_cut_first false NoMemory x never = refl

no_cut : (w : LegEnd) → is_exchange_cut (by_response w) ≡ false
no_cut Parked = refl
no_cut Over = refl
no_cut Terminated = refl
no_cut Ended = refl
no_cut Cut = refl
no_cut (Bad n) = refl
no_cut ReadFault = refl
no_cut WriteFault = refl
no_cut NoMemory = refl

pub cut_by : (f : Finish) → is_exchange f ≡ is_exchange_cut (by_finish f)
cut_by (Legs w w') = sym (no_cut_first (by.is_no_memory w') w (by_response w') (no_cut w'))
cut_by (Exchange c) = refl
