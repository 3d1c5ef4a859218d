use Rattle.std.proofs.Common.{◌≡◌, ◌∙◌, true, sym}
use Rattle.startup_route.specs.Tenants.{begins_number}
use Rattle.startup_route.proofs.TenantLemmas.{number_parsed}
use Rattle.startup_route.proofs.tenant.number_of.Goals as goal

pub returns : goal.returns
returns c =
    let begins : begins_number c.args.text.now ≡ true = rw (← c.as_bytes.ensures.value) (sym c.begins_number.ensures ∙ c.if-not-begins_number.false) in
    c.ok.ensures.value ∙ number_parsed c.args.text.now c.parse.result begins c.parse.ensures.value.0
