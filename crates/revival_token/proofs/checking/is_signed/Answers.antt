use Rattle.std.proofs.Common.{◌≡◌, ◌∙◌, ℕ, List, length, ap, arith, take, drop, ◌-◌, length-drop}
use Rattle.std.specs.Str.{bytes_eq}
use Rattle.revival_token.proofs.Forms.{differing_is, length-hmac}
use Rattle.revival_token.specs.Hmac.{hmac}
use Rattle.revival_token.specs.Token.{is_signed}
use Rattle.revival_token.proofs.checking.is_signed.Goals as goal

pub returns : goal.returns
unfolding is_signed
returns c =
    let t : List ℕ = c.args.token.now in
    let long : length c.hmac_sha256.result ≡ length c.split_at.result.1.now = omega (arith, ap length c.hmac_sha256.ensures, length-hmac c.args.secret.now c.split_at.result.0.now, ap length c.split_at.ensures.back, length-drop {A = ℕ}) in
    differing_is c.hmac_sha256.result c.split_at.result.1.now c.differing.result long c.differing.ensures
    ∙ ap (λ (m : List ℕ). bytes_eq m c.split_at.result.1.now) (c.hmac_sha256.ensures ∙ ap (λ (x : List ℕ). hmac c.args.secret.now x) c.split_at.ensures.front)
    ∙ ap (λ (x : List ℕ). bytes_eq (hmac c.args.secret.now (take (length t - 32) t)) x) c.split_at.ensures.back
