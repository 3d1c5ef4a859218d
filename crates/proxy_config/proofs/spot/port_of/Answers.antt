use Rattle.std.proofs.Common.{◌≡◌, ◌∙◌, true, sym}
use Rattle.proxy_config.specs.Texts.{begins_number}
use Rattle.proxy_config.proofs.Ports.{port_parsed}
use Rattle.proxy_config.proofs.spot.port_of.Goals as goal

pub returns : goal.returns
returns c =
    let begins : begins_number c.args.text.now ≡ true = rw (← c.as_bytes.ensures.value) (sym c.begins_number.ensures ∙ c.if-not-begins_number.false) in
    c.ok.ensures.value ∙ port_parsed c.args.text.now c.parse.result begins c.parse.ensures.value.0
