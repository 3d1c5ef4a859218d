-- A text is read as an address exactly where it spells one.
use Rattle.std.proofs.Common.{◌≡◌, ℕ, Bool, true, false, List, [], ◌∷◌, Option, Some, None, Err, refl, sym, ap, ◌∙◌, subst, append-nil, lit≤, length, ne_eqb, arith}
use Rattle.std.specs.List.{list_any}
use Rattle.std.specs.Int.{w32, w128, from_be_bytes}
use Rattle.std.specs.Net.Addr.{octets_of}
use Rattle.std.specs.Net.Grammar.{IsDotted}
use Rattle.std.specs.Net.Grammar as Std
use Rattle.std.specs.Net.Reader.{Read, read_ipv4, read_ipv6, whole_value}
use Rattle.std.proofs.lemmas.Option.{none-some, same_Some}
use Rattle.std.proofs.NetLemmas.Ipv4.{read_ipv4_sound, read_ipv4_complete}
use Rattle.std.proofs.NetLemmas.Ipv6.{read_ipv6_sound, read_ipv6_complete, EndsGroups-nil, IsDotted-not_colon_hex}
use Rattle.proxy_outside.specs.declared.addr.Addr.{Addr}
use Rattle.proxy_outside.specs.declared.addr.Addr.TheVariants.{V4, V6}
use Rattle.access_lists.specs.Addresses.{IsAddrText, ReadsAddr, is_dot}
use Rattle.access_lists.specs.declared.fault.NetFault.{NetFault}
use Rattle.access_lists.specs.declared.fault.NetFault.TheVariants.{BadAddress, BadPrefix}
use Rattle.access_lists.proofs.ColonHex.{undotted, in_std, of_std}
use Rattle.proxy_config.specs.Texts.{addr_of}

whole_sound : {A : Type 0} (r : Read A) (a : A) → whole_value r ≡ Some a → r ≡ Some (a, [])
whole_sound None a e = absurd (none-some a e)
whole_sound (Some (b, [])) a e = ap (λ x. Some (x, [])) (same_Some b a e)
whole_sound (Some (b, c ∷ rest)) a e =
    let none : whole_value (Some (b, c ∷ rest)) ≡ None = rw (ne_eqb (length (c ∷ rest)) 0 (omega arith)) refl in
    absurd (none-some a (sym none ∙ e))

v4_complete : (text octets : List ℕ) → IsDotted text octets → whole_value (read_ipv4 text) ≡ Some octets
v4_complete text octets h = ap whole_value (rw append-nil at (read_ipv4_complete text octets [] h (lit≤ tt)))

v4_sound : (text octets : List ℕ) → whole_value (read_ipv4 text) ≡ Some octets → IsDotted text octets
v4_sound text octets e =
    let (front, split, h) = read_ipv4_sound text octets [] (whole_sound _ octets e) in
    subst (λ t. IsDotted t octets) (sym (split ∙ append-nil front)) h

v6_complete : (text groups : List ℕ) → Std.IsColonHex text groups → whole_value (read_ipv6 text) ≡ Some groups
v6_complete text groups h = ap whole_value (rw append-nil at (read_ipv6_complete text groups [] h EndsGroups-nil))

v6_sound : (text groups : List ℕ) → whole_value (read_ipv6 text) ≡ Some groups → Std.IsColonHex text groups
v6_sound text groups e =
    let (front, split, h) = read_ipv6_sound text groups [] (whole_sound _ groups e) in
    subst (λ t. Std.IsColonHex t groups) (sym (split ∙ append-nil front)) h

-- ---- from the standard to the reader

no_v4 : (text groups : List ℕ) (r : Option (List ℕ)) → whole_value (read_ipv4 text) ≡ r → Std.IsColonHex text groups → whole_value (read_ipv4 text) ≡ None
no_v4 text groups None e h = e
no_v4 text groups (Some octets) e h = absurd (IsDotted-not_colon_hex text octets groups (v4_sound text octets e) h)

pub addr_from : (text : List ℕ) (a : Addr) → IsAddrText text a → addr_of text ≡ Some a
unfolding addr_of
addr_from text (V4 bits) (octets, dotted, e) = rw (v4_complete text octets dotted, e) refl
addr_from text (V6 bits) (groups, colons, e) =
    let std : Std.IsColonHex text groups = in_std text groups colons in
    rw (no_v4 text groups (whole_value (read_ipv4 text)) refl std, undotted text groups colons, v6_complete text groups std, e) refl

-- ---- and back

by_v6 : (text : List ℕ) (a : Addr) (dots : Bool) (r : Option (List ℕ)) → list_any is_dot text ≡ dots → whole_value (read_ipv6 text) ≡ r → whole_value (read_ipv4 text) ≡ None → addr_of text ≡ Some a → IsAddrText text a
unfolding addr_of
by_v6 text a true r d e none h = let is : addr_of text ≡ None = rw (none, d) refl in absurd (none-some a (sym is ∙ h))
by_v6 text a false None d e none h = let is : addr_of text ≡ None = rw (none, d, e) refl in absurd (none-some a (sym is ∙ h))
by_v6 text a false (Some groups) d e none h =
    let is : addr_of text ≡ Some (V6 (from_be_bytes w128 (octets_of groups))) = rw (none, d, e) refl in
    subst (IsAddrText text) (same_Some _ a (sym is ∙ h)) (groups, of_std text groups d (v6_sound text groups e), refl)

by_v4 : (text : List ℕ) (a : Addr) (r : Option (List ℕ)) → whole_value (read_ipv4 text) ≡ r → addr_of text ≡ Some a → IsAddrText text a
unfolding addr_of
by_v4 text a None e h = by_v6 text a (list_any is_dot text) (whole_value (read_ipv6 text)) refl refl e h
by_v4 text a (Some octets) e h =
    let is : addr_of text ≡ Some (V4 (from_be_bytes w32 octets)) = rw e refl in
    subst (IsAddrText text) (same_Some _ a (sym is ∙ h)) (octets, v4_sound text octets e, refl)

pub addr_to : (text : List ℕ) (a : Addr) → addr_of text ≡ Some a → IsAddrText text a
addr_to text a h = by_v4 text a (whole_value (read_ipv4 text)) refl h

-- ---- no address

none_by : (text : List ℕ) (r : Option Addr) → addr_of text ≡ r → ((a : Addr) → ¬ IsAddrText text a) → None ≡ addr_of text
none_by text None e h = sym e
none_by text (Some a) e h = absurd (h a (addr_to text a e))

pub no_address : (text : List ℕ) → ((a : Addr) → ¬ IsAddrText text a) → None ≡ addr_of text
no_address text h = none_by text (addr_of text) refl h

pub refused : (text : List ℕ) (e : NetFault) → ReadsAddr text (Err e) → None ≡ addr_of text
refused text BadAddress h = no_address text h
refused text BadPrefix h = absurd h
