-- A link that was hung up, where no list is told.
use Rattle.std.proofs.Common.{rules, ◌≡◌, ◌-◌, ◌≤◌, None, refl, ap, ◌∙◌}
use Rattle.proxy_outside.specs.Reading.{Origin}
use Rattle.proxy_outside.specs.Writing.{Target}
use Rattle.proxy_outside.specs.declared.addr.Addr.TheVariants.{V4}
use Rattle.proxy_links.specs.Links.{Links, LinkCounts, counts_of, HangsUp}

pub hangs_up : (old new : Links) (t : Target) (r : Origin) (counts : LinkCounts) → old.dials ≡ None → old.records ≡ None → old.faults ≤ new.faults
    → new ≡ record old { live = old.live - 1; faults = new.faults; closed = counts } → counts ≡ counts_of t r → HangsUp old new t r
hangs_up old new t r counts d k f e q = record {
  place = record { pod = record { 0 = 0 }; addr = V4 0; port = 0 };
  is_place = search rules;
  faults = f;
  others = e ∙ (ap (λ (c : LinkCounts). record old { live = old.live - 1; faults = new.faults; closed = c }) q ∙ rw k refl);
}
