-- What one call finds in a table of keys, and changes of it.
use Rattle.std.proofs.Common.{◌≡◌, ℕ, Bool, true, false, Option, Some, None, Bor, sym, ap, ◌∙◌}
use Rattle.std.specs.Prelude.{if◌then◌else◌}
use Rattle.std.specs.Option.{option_copied}
use Rattle.std.specs.BTreeMap as tree
use Rattle.std.specs.BTreeMap.{BTreeMap}
use Rattle.std.specs.FinMap as map
use Rattle.pgw_messages.specs.declared.pod_key.PodKey.{PodKey}
use Rattle.proxy_outside.specs.declared.addr.Addr.{Addr}
use Rattle.proxy_outside.specs.declared.identity.SessionNo.{SessionNo}
use Rattle.proxy_outside.specs.declared.place.Place.{Place}
use Rattle.proxy_outside.specs.Orders.{sessions, sessions_total, sessions_exact}
use Rattle.proxy_outside.specs.Tables.{table_of, get-table_of, table_of-insert, table_of-remove}
use Rattle.cancel_keys.specs.declared.given.Given.{Given}
use Rattle.cancel_keys.specs.Given.{opens}
use Rattle.cancel_keys.specs.Tables.{target_by, bound_by, bound}

abbrev Table : Type 0
Table = map.FinMap sessions Given

abbrev put : SessionNo → Given → Table → Table
put s g keys = map.insert keys s g

abbrev without : SessionNo → Table → Table
without s keys = map.remove keys s

pub key_put : (now : Table) (old new : BTreeMap SessionNo Given) (s : SessionNo) (g : Given) → table_of old ≡ now → tree.Updates sessions old new s (Some g) → table_of new ≡ put s g now
key_put now old new s g is u = table_of-insert sessions_total sessions_exact old new s g u ∙ ap (put s g) is

pub key_removed : (now : Table) (old new : BTreeMap SessionNo Given) (s : SessionNo) → table_of old ≡ now → tree.Updates sessions old new s None → table_of new ≡ without s now
key_removed now old new s is u = table_of-remove sessions_total sessions_exact old new s u ∙ ap (without s) is

pub key_at : (now : Table) (keys : BTreeMap SessionNo Given) (s : SessionNo) (o : Option Given) → table_of keys ≡ now → o ≡ tree.get sessions keys s → o ≡ map.get now s
key_at now keys s o is e = e ∙ sym (get-table_of sessions_total keys s) ∙ ap (λ (t : Table). map.get t s) is

pub key_found : (now : Table) (keys : BTreeMap SessionNo Given) (s : SessionNo) (o p : Option (Bor Given)) → table_of keys ≡ now → o ≡ p → option_copied o ≡ tree.get sessions keys s
    → option_copied p ≡ map.get now s
key_found now keys s o p is e h = key_at now keys s (option_copied p) is (ap option_copied (sym e) ∙ h)

-- ---- who may use a key

pub opened : (g : Given) (secret : ℕ) (addr : Addr) (b : Bool) → b ≡ opens g secret addr → b ≡ true → g.target ≡ target_by (Some g) secret addr
opened g secret addr b e t = ap (λ (c : Bool). if c then g.target else None) (sym t ∙ e)

pub shut : (g : Given) (secret : ℕ) (addr : Addr) (b : Bool) → b ≡ opens g secret addr → b ≡ false → None ≡ target_by (Some g) secret addr
shut g secret addr b e t = ap (λ (c : Bool). if c then g.target else None) (sym t ∙ e)

-- ---- a target

pub bound_none : (keys : Table) (s : SessionNo) (target : Place × PodKey) → None ≡ map.get keys s → keys ≡ bound keys s target
bound_none keys s target e = ap (λ (o : Option Given). bound_by o keys s target) e

pub bound_some : (keys : Table) (s : SessionNo) (g : Given) (target : Place × PodKey) → Some g ≡ map.get keys s → put s (record g { target = Some target }) keys ≡ bound keys s target
bound_some keys s g target e = ap (λ (o : Option Given). bound_by o keys s target) e
