use Rattle.std.proofs.Common.{◌≡◌, List, ℕ, ◌++◌, ap, ◌∙◌}
use Rattle.revival_token.specs.Hmac.{hmac}
use Rattle.revival_token.specs.Token.{token_bytes, claims}
use Rattle.revival_token.proofs.issuing.issue.Goals as goal

pub returns : goal.returns
unfolding token_bytes
returns c =
    let said : List ℕ = claims c.args.user.now c.args.tenant.0 c.args.until in
    let signed : c.extend-4.new.self ≡ said = cc (c.in_ok-token.ensures, c.in_ok-extend.ensures.ok, c.in_ok-extend-2.ensures.ok, c.in_ok-extend-3.ensures.ok, c.in_ok-extend-4.ensures.ok) in
    c.in_ok-extend-5.ensures.ok
    ∙ ap (λ (mac : List ℕ). c.extend-4.new.self ++ mac) (c.hmac_sha256-mac.ensures ∙ ap (hmac c.args.secret.now) c.as_slice.ensures)
    ∙ ap (λ (x : List ℕ). x ++ hmac c.args.secret.now x) signed
