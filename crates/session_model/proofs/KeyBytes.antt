-- The sixteen bytes of a key are those of its two numbers.
use Rattle.std.proofs.Common.{◌≡◌, ℕ, ◌+◌, ◌*◌, ◌/◌, ◌%◌, ◌^◌, ◌<◌, ◌++◌, arith}
use Rattle.std.specs.Int.{w64, w128, to_be_bytes}

pub halves : (n high low : ℕ) → n ≡ high * 2 ^ 64 + low → high < 2 ^ 64 → low < 2 ^ 64 → to_be_bytes w128 n ≡ to_be_bytes w64 high ++ to_be_bytes w64 low
halves n high low is high_small low_small =
    let high_7 : n / 256 ^ 15 % 256 ≡ high / 256 ^ 7 % 256 = omega arith in
    let high_6 : n / 256 ^ 14 % 256 ≡ high / 256 ^ 6 % 256 = omega arith in
    let high_5 : n / 256 ^ 13 % 256 ≡ high / 256 ^ 5 % 256 = omega arith in
    let high_4 : n / 256 ^ 12 % 256 ≡ high / 256 ^ 4 % 256 = omega arith in
    let high_3 : n / 256 ^ 11 % 256 ≡ high / 256 ^ 3 % 256 = omega arith in
    let high_2 : n / 256 ^ 10 % 256 ≡ high / 256 ^ 2 % 256 = omega arith in
    let high_1 : n / 256 ^ 9 % 256 ≡ high / 256 ^ 1 % 256 = omega arith in
    let high_0 : n / 256 ^ 8 % 256 ≡ high % 256 = omega arith in
    let low_7 : n / 256 ^ 7 % 256 ≡ low / 256 ^ 7 % 256 = omega arith in
    let low_6 : n / 256 ^ 6 % 256 ≡ low / 256 ^ 6 % 256 = omega arith in
    let low_5 : n / 256 ^ 5 % 256 ≡ low / 256 ^ 5 % 256 = omega arith in
    let low_4 : n / 256 ^ 4 % 256 ≡ low / 256 ^ 4 % 256 = omega arith in
    let low_3 : n / 256 ^ 3 % 256 ≡ low / 256 ^ 3 % 256 = omega arith in
    let low_2 : n / 256 ^ 2 % 256 ≡ low / 256 ^ 2 % 256 = omega arith in
    let low_1 : n / 256 ^ 1 % 256 ≡ low / 256 ^ 1 % 256 = omega arith in
    let low_0 : n % 256 ≡ low % 256 = omega arith in
    cc
