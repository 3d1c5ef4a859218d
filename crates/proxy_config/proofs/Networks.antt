-- A text is read as a network exactly where it spells one.
use Rattle.std.proofs.Common.{◌≡◌, ℕ, ◌^◌, ◌<◌, ◌≤◌, Bool, true, false, nat_le, List, Option, Some, None, Err, refl, sym, ap, ◌∙◌, subst, le-leb, arith}
use Rattle.std.specs.Fmt.{decimal}
use Rattle.std.specs.Str.{bytes_eq}
use Rattle.std.specs.Str.Parse.{digits_value}
use Rattle.std.proofs.lemmas.Bool.{leb-true}
use Rattle.std.proofs.lemmas.Option.{none-some, same_Some}
use Rattle.std.proofs.lemmas.Fmt.{decimal_is_IsNumeral}
use Rattle.std.proofs.lemmas.Slice.Eq.{bytes_eq-Decides}
use Rattle.proxy_outside.specs.declared.addr.Addr.{Addr}
use Rattle.proxy_outside.specs.declared.addr.Addr.TheVariants.{V4, V6}
use Rattle.access_lists.specs.Networks.{width_of}
use Rattle.access_lists.specs.NetTexts.{IsPrefix, IsNetText, ReadsNet, before_slash, behind_slash}
use Rattle.access_lists.specs.Addresses.{IsAddrText}
use Rattle.access_lists.specs.declared.net.Net.{Net}
use Rattle.access_lists.specs.declared.fault.NetFault.{NetFault}
use Rattle.access_lists.specs.declared.fault.NetFault.TheVariants.{BadAddress, BadPrefix}
use Rattle.proxy_config.specs.Texts.{addr_of, number_within, prefix_of, net_of}
use Rattle.proxy_config.proofs.Addresses.{addr_from, addr_to}

widths : (a : Addr) → width_of a ≤ 128
widths (V4 bits) = omega arith
widths (V6 bits) = omega arith

prefix_from : (width : ℕ) (behind : Option (List ℕ)) (n : ℕ) → width ≤ 128 → IsPrefix width behind n → prefix_of width behind ≡ Some n
prefix_from width None n le h = ap Some (sym h)
prefix_from width (Some text) n le h =
    let small : n < 2 ^ 64 = omega (arith, le, h.1) in
    let value : digits_value 10 text ≡ n = ap (digits_value 10) h.0 ∙ (decimal_is_IsNumeral n small).1 in
    let same : bytes_eq text (decimal n) ≡ true = (bytes_eq-Decides text (decimal n)).1 h.0 in
    rw (value, same, le-leb n width h.1) refl

number_to : (width : ℕ) (text : List ℕ) (n : ℕ) (same few : Bool) → bytes_eq text (decimal (digits_value 10 text)) ≡ same → nat_le (digits_value 10 text) width ≡ few → number_within width text ≡ Some n → (text ≡ decimal n) × (n ≤ width)
number_to width text n true true e f h =
    let is : number_within width text ≡ Some (digits_value 10 text) = rw (e, f) refl in
    let value : digits_value 10 text ≡ n = same_Some _ n (sym is ∙ h) in
    let spelled : text ≡ decimal (digits_value 10 text) = (bytes_eq-Decides text (decimal (digits_value 10 text))).0 e in
    (spelled ∙ ap decimal value, rw (← value) (leb-true _ _ f))
number_to width text n true false e f h = let is : number_within width text ≡ None = rw (e, f) refl in absurd (none-some n (sym is ∙ h))
number_to width text n false few e f h = let is : number_within width text ≡ None = rw e refl in absurd (none-some n (sym is ∙ h))

prefix_to : (width : ℕ) (behind : Option (List ℕ)) (n : ℕ) → prefix_of width behind ≡ Some n → IsPrefix width behind n
prefix_to width None n h = sym (same_Some width n h)
prefix_to width (Some text) n h = number_to width text n (bytes_eq text (decimal (digits_value 10 text))) (nat_le (digits_value 10 text) width) refl refl h

pub net_from : (text : List ℕ) (net : Net) → IsNetText text net → net_of text ≡ Some net
unfolding net_of
net_from text net h = rw (addr_from (before_slash text) net.addr h.0, prefix_from (width_of net.addr) (behind_slash text) net.prefix (widths net.addr) h.1) refl

at_prefix : (text : List ℕ) (net : Net) (a : Addr) (p : Option ℕ) → addr_of (before_slash text) ≡ Some a → prefix_of (width_of a) (behind_slash text) ≡ p → net_of text ≡ Some net → IsNetText text net
unfolding net_of
at_prefix text net a None e f h = let is : net_of text ≡ None = rw (e, f) refl in absurd (none-some net (sym is ∙ h))
at_prefix text net a (Some n) e f h =
    let made : Net = record { addr = a; prefix = n } in
    let is : net_of text ≡ Some made = rw (e, f) refl in
    subst (IsNetText text) (same_Some made net (sym is ∙ h)) (addr_to (before_slash text) a e, prefix_to (width_of a) (behind_slash text) n f)

at_addr : (text : List ℕ) (net : Net) (a : Option Addr) → addr_of (before_slash text) ≡ a → net_of text ≡ Some net → IsNetText text net
unfolding net_of
at_addr text net None e h = let is : net_of text ≡ None = rw e refl in absurd (none-some net (sym is ∙ h))
at_addr text net (Some a) e h = at_prefix text net a (prefix_of (width_of a) (behind_slash text)) e refl h

pub net_to : (text : List ℕ) (net : Net) → net_of text ≡ Some net → IsNetText text net
net_to text net h = at_addr text net (addr_of (before_slash text)) refl h

-- ---- no network

one_addr : (text : List ℕ) (a b : Addr) → IsAddrText text a → IsAddrText text b → a ≡ b
one_addr text a b h k = same_Some a b (sym (addr_from text a h) ∙ addr_from text b k)

no_net : (text : List ℕ) (e : NetFault) → ReadsNet text (Err e) → (net : Net) → ¬ IsNetText text net
no_net text BadAddress h net k = h net.addr k.0
no_net text BadPrefix h net k =
    let same : net.addr ≡ h.0 = one_addr (before_slash text) net.addr h.0 k.0 h.1 in
    h.2 net.prefix (subst (λ a. IsPrefix (width_of a) (behind_slash text) net.prefix) same k.1)

none_by : (text : List ℕ) (e : NetFault) (r : Option Net) → net_of text ≡ r → ReadsNet text (Err e) → None ≡ net_of text
none_by text e None is h = sym is
none_by text e (Some net) is h = absurd (no_net text e h net (net_to text net is))

pub refused : (text : List ℕ) (e : NetFault) → ReadsNet text (Err e) → None ≡ net_of text
refused text e h = none_by text e (net_of text) refl h
