-- Sixteen bytes, the lowest first, and the number below 2 ^ 128 with these bytes.
use Rattle.std.proofs.Common.{◌≡◌, ℕ, ◌+◌, ◌*◌, ◌/◌, ◌%◌, ◌<◌, ◌^◌, List, [], ◌∷◌, length, get_or, refl, ap, ◌∙◌, arith}
use Rattle.std.proofs.lemmas.Nat.{div-mul-add, mod-mul-add}
use Rattle.std.specs.Prelude.{All}
use Rattle.std.proofs.lemmas.List.Elements.{All-get_or}
use Rattle.std.specs.Int.{w128, to_le_bytes, from_le_bytes}

byte_at : (low p x high n : ℕ) → low < p → x < 256 → n ≡ (high * 256 + x) * p + low → n / p % 256 ≡ x
byte_at low p x high n below small is = ap (λ m. m / p % 256) is ∙ ap (λ m. m % 256) (div-mul-add (high * 256 + x) p low below) ∙ mod-mul-add high 256 x small

bytes_16 : (b0 b1 b2 b3 b4 b5 b6 b7 b8 b9 b10 b11 b12 b13 b14 b15 n : ℕ) → b0 < 256 → b1 < 256 → b2 < 256 → b3 < 256 → b4 < 256 → b5 < 256 → b6 < 256 →
    b7 < 256 → b8 < 256 → b9 < 256 → b10 < 256 → b11 < 256 → b12 < 256 → b13 < 256 → b14 < 256 → b15 < 256 →
    n ≡ b0 + b1 * 256 + b2 * 65536 + b3 * 16777216 + b4 * 4294967296 + b5 * 1099511627776 + b6 * 281474976710656 + b7 * 72057594037927936 + b8
    * 18446744073709551616 + b9 * 4722366482869645213696 + b10 * 1208925819614629174706176 + b11 * 309485009821345068724781056 + b12
    * 79228162514264337593543950336 + b13 * 20282409603651670423947251286016 + b14 * 5192296858534827628530496329220096 + b15
    * 1329227995784915872903807060280344576 →
    (n % 256) ∷ (n / 256 % 256) ∷ (n / 65536 % 256) ∷ (n / 16777216 % 256) ∷ (n / 4294967296 % 256) ∷ (n / 1099511627776 % 256) ∷ (n / 281474976710656
    % 256) ∷ (n / 72057594037927936 % 256) ∷ (n / 18446744073709551616 % 256) ∷ (n / 4722366482869645213696 % 256) ∷ (n / 1208925819614629174706176
    % 256) ∷ (n / 309485009821345068724781056 % 256) ∷ (n / 79228162514264337593543950336 % 256) ∷ (n / 20282409603651670423947251286016 % 256) ∷ (n
    / 5192296858534827628530496329220096 % 256) ∷ (n / 1329227995784915872903807060280344576
    % 256) ∷ [] ≡ b0 ∷ b1 ∷ b2 ∷ b3 ∷ b4 ∷ b5 ∷ b6 ∷ b7 ∷ b8 ∷ b9 ∷ b10 ∷ b11 ∷ b12 ∷ b13 ∷ b14 ∷ b15 ∷ []
bytes_16 b0 b1 b2 b3 b4 b5 b6 b7 b8 b9 b10 b11 b12 b13 b14 b15 n s0 s1 s2 s3 s4 s5 s6 s7 s8 s9 s10 s11 s12 s13 s14 s15 is =
    let split : n ≡ (b1 + b2 * 256 + b3 * 65536 + b4 * 16777216 + b5 * 4294967296 + b6 * 1099511627776 + b7 * 281474976710656 + b8 * 72057594037927936 + b9
    * 18446744073709551616 + b10 * 4722366482869645213696 + b11 * 1208925819614629174706176 + b12 * 309485009821345068724781056 + b13
    * 79228162514264337593543950336 + b14 * 20282409603651670423947251286016 + b15 * 5192296858534827628530496329220096) * 256 + b0 = omega arith in
    let at0 : n % 256 ≡ b0 = ap (λ m. m % 256) split ∙
    mod-mul-add (b1 + b2 * 256 + b3 * 65536 + b4 * 16777216 + b5 * 4294967296 + b6 * 1099511627776 + b7 * 281474976710656 + b8 * 72057594037927936 + b9
    * 18446744073709551616 + b10 * 4722366482869645213696 + b11 * 1208925819614629174706176 + b12 * 309485009821345068724781056 + b13
    * 79228162514264337593543950336 + b14 * 20282409603651670423947251286016 + b15 * 5192296858534827628530496329220096) 256 b0 s0 in
    let at1 = byte_at (b0) 256 b1 (b2 + b3 * 256 + b4 * 65536 + b5 * 16777216 + b6 * 4294967296 + b7 * 1099511627776 + b8 * 281474976710656 + b9
    * 72057594037927936 + b10 * 18446744073709551616 + b11 * 4722366482869645213696 + b12 * 1208925819614629174706176 + b13
    * 309485009821345068724781056 + b14 * 79228162514264337593543950336 + b15 * 20282409603651670423947251286016) n (omega arith) s1 (omega arith) in
    let at2 = byte_at (b0 + b1 * 256) 65536 b2
    (b3 + b4 * 256 + b5 * 65536 + b6 * 16777216 + b7 * 4294967296 + b8 * 1099511627776 + b9 * 281474976710656 + b10 * 72057594037927936 + b11
    * 18446744073709551616 + b12 * 4722366482869645213696 + b13 * 1208925819614629174706176 + b14 * 309485009821345068724781056 + b15
    * 79228162514264337593543950336) n (omega arith) s2 (omega arith) in
    let at3 = byte_at (b0 + b1 * 256 + b2 * 65536) 16777216 b3
    (b4 + b5 * 256 + b6 * 65536 + b7 * 16777216 + b8 * 4294967296 + b9 * 1099511627776 + b10 * 281474976710656 + b11 * 72057594037927936 + b12
    * 18446744073709551616 + b13 * 4722366482869645213696 + b14 * 1208925819614629174706176 + b15 * 309485009821345068724781056) n (omega arith) s3
    (omega arith) in
    let at4 = byte_at (b0 + b1 * 256 + b2 * 65536 + b3 * 16777216) 4294967296 b4
    (b5 + b6 * 256 + b7 * 65536 + b8 * 16777216 + b9 * 4294967296 + b10 * 1099511627776 + b11 * 281474976710656 + b12 * 72057594037927936 + b13
    * 18446744073709551616 + b14 * 4722366482869645213696 + b15 * 1208925819614629174706176) n (omega arith) s4 (omega arith) in
    let at5 = byte_at (b0 + b1 * 256 + b2 * 65536 + b3 * 16777216 + b4 * 4294967296) 1099511627776 b5
    (b6 + b7 * 256 + b8 * 65536 + b9 * 16777216 + b10 * 4294967296 + b11 * 1099511627776 + b12 * 281474976710656 + b13 * 72057594037927936 + b14
    * 18446744073709551616 + b15 * 4722366482869645213696) n (omega arith) s5 (omega arith) in
    let at6 = byte_at (b0 + b1 * 256 + b2 * 65536 + b3 * 16777216 + b4 * 4294967296 + b5 * 1099511627776) 281474976710656 b6
    (b7 + b8 * 256 + b9 * 65536 + b10 * 16777216 + b11 * 4294967296 + b12 * 1099511627776 + b13 * 281474976710656 + b14 * 72057594037927936 + b15
    * 18446744073709551616) n (omega arith) s6 (omega arith) in
    let at7 = byte_at (b0 + b1 * 256 + b2 * 65536 + b3 * 16777216 + b4 * 4294967296 + b5 * 1099511627776 + b6 * 281474976710656) 72057594037927936 b7
    (b8 + b9 * 256 + b10 * 65536 + b11 * 16777216 + b12 * 4294967296 + b13 * 1099511627776 + b14 * 281474976710656 + b15 * 72057594037927936) n
    (omega arith) s7 (omega arith) in
    let at8 = byte_at (b0 + b1 * 256 + b2 * 65536 + b3 * 16777216 + b4 * 4294967296 + b5 * 1099511627776 + b6 * 281474976710656 + b7 * 72057594037927936)
    18446744073709551616 b8 (b9 + b10 * 256 + b11 * 65536 + b12 * 16777216 + b13 * 4294967296 + b14 * 1099511627776 + b15 * 281474976710656) n
    (omega arith) s8 (omega arith) in
    let at9 = byte_at (b0 + b1 * 256 + b2 * 65536 + b3 * 16777216 + b4 * 4294967296 + b5 * 1099511627776 + b6 * 281474976710656 + b7 * 72057594037927936 + b8
    * 18446744073709551616) 4722366482869645213696 b9 (b10 + b11 * 256 + b12 * 65536 + b13 * 16777216 + b14 * 4294967296 + b15 * 1099511627776) n
    (omega arith) s9 (omega arith) in
    let at10 = byte_at (b0 + b1 * 256 + b2 * 65536 + b3 * 16777216 + b4 * 4294967296 + b5 * 1099511627776 + b6 * 281474976710656 + b7 * 72057594037927936 + b8
    * 18446744073709551616 + b9 * 4722366482869645213696) 1208925819614629174706176 b10
    (b11 + b12 * 256 + b13 * 65536 + b14 * 16777216 + b15 * 4294967296) n (omega arith) s10 (omega arith) in
    let at11 = byte_at (b0 + b1 * 256 + b2 * 65536 + b3 * 16777216 + b4 * 4294967296 + b5 * 1099511627776 + b6 * 281474976710656 + b7 * 72057594037927936 + b8
    * 18446744073709551616 + b9 * 4722366482869645213696 + b10 * 1208925819614629174706176) 309485009821345068724781056 b11
    (b12 + b13 * 256 + b14 * 65536 + b15 * 16777216) n (omega arith) s11 (omega arith) in
    let at12 = byte_at (b0 + b1 * 256 + b2 * 65536 + b3 * 16777216 + b4 * 4294967296 + b5 * 1099511627776 + b6 * 281474976710656 + b7 * 72057594037927936 + b8
    * 18446744073709551616 + b9 * 4722366482869645213696 + b10 * 1208925819614629174706176 + b11 * 309485009821345068724781056)
    79228162514264337593543950336 b12 (b13 + b14 * 256 + b15 * 65536) n (omega arith) s12 (omega arith) in
    let at13 = byte_at (b0 + b1 * 256 + b2 * 65536 + b3 * 16777216 + b4 * 4294967296 + b5 * 1099511627776 + b6 * 281474976710656 + b7 * 72057594037927936 + b8
    * 18446744073709551616 + b9 * 4722366482869645213696 + b10 * 1208925819614629174706176 + b11 * 309485009821345068724781056 + b12
    * 79228162514264337593543950336) 20282409603651670423947251286016 b13 (b14 + b15 * 256) n (omega arith) s13 (omega arith) in
    let at14 = byte_at (b0 + b1 * 256 + b2 * 65536 + b3 * 16777216 + b4 * 4294967296 + b5 * 1099511627776 + b6 * 281474976710656 + b7 * 72057594037927936 + b8
    * 18446744073709551616 + b9 * 4722366482869645213696 + b10 * 1208925819614629174706176 + b11 * 309485009821345068724781056 + b12
    * 79228162514264337593543950336 + b13 * 20282409603651670423947251286016) 5192296858534827628530496329220096 b14 (b15) n (omega arith) s14
    (omega arith) in
    let at15 = byte_at (b0 + b1 * 256 + b2 * 65536 + b3 * 16777216 + b4 * 4294967296 + b5 * 1099511627776 + b6 * 281474976710656 + b7 * 72057594037927936 + b8
    * 18446744073709551616 + b9 * 4722366482869645213696 + b10 * 1208925819614629174706176 + b11 * 309485009821345068724781056 + b12
    * 79228162514264337593543950336 + b13 * 20282409603651670423947251286016 + b14 * 5192296858534827628530496329220096)
    1329227995784915872903807060280344576 b15 (0) n (omega arith) s15 (omega arith) in
    λ i. at0 i ∷ at1 i ∷ at2 i ∷ at3 i ∷ at4 i ∷ at5 i ∷ at6 i ∷ at7 i ∷ at8 i ∷ at9 i ∷ at10 i ∷ at11 i ∷ at12 i ∷ at13 i ∷ at14 i ∷ at15 i ∷ []

written : (bs : List ℕ) → length bs ≡ 16 →
    get_or bs 0 0 ∷ get_or bs 1 0 ∷ get_or bs 2 0 ∷ get_or bs 3 0 ∷ get_or bs 4 0 ∷ get_or bs 5 0 ∷ get_or bs 6 0 ∷ get_or bs 7 0 ∷ get_or bs 8 0 ∷ get_or bs
    9 0 ∷ get_or bs 10 0 ∷ get_or bs 11 0 ∷ get_or bs 12 0 ∷ get_or bs 13 0 ∷ get_or bs 14 0 ∷ get_or bs 15 0 ∷ [] ≡ bs
written [] l = absurd (omega arith)
written (x0 ∷ []) l = absurd (omega arith)
written (x0 ∷ x1 ∷ []) l = absurd (omega arith)
written (x0 ∷ x1 ∷ x2 ∷ []) l = absurd (omega arith)
written (x0 ∷ x1 ∷ x2 ∷ x3 ∷ []) l = absurd (omega arith)
written (x0 ∷ x1 ∷ x2 ∷ x3 ∷ x4 ∷ []) l = absurd (omega arith)
written (x0 ∷ x1 ∷ x2 ∷ x3 ∷ x4 ∷ x5 ∷ []) l = absurd (omega arith)
written (x0 ∷ x1 ∷ x2 ∷ x3 ∷ x4 ∷ x5 ∷ x6 ∷ []) l = absurd (omega arith)
written (x0 ∷ x1 ∷ x2 ∷ x3 ∷ x4 ∷ x5 ∷ x6 ∷ x7 ∷ []) l = absurd (omega arith)
written (x0 ∷ x1 ∷ x2 ∷ x3 ∷ x4 ∷ x5 ∷ x6 ∷ x7 ∷ x8 ∷ []) l = absurd (omega arith)
written (x0 ∷ x1 ∷ x2 ∷ x3 ∷ x4 ∷ x5 ∷ x6 ∷ x7 ∷ x8 ∷ x9 ∷ []) l = absurd (omega arith)
written (x0 ∷ x1 ∷ x2 ∷ x3 ∷ x4 ∷ x5 ∷ x6 ∷ x7 ∷ x8 ∷ x9 ∷ x10 ∷ []) l = absurd (omega arith)
written (x0 ∷ x1 ∷ x2 ∷ x3 ∷ x4 ∷ x5 ∷ x6 ∷ x7 ∷ x8 ∷ x9 ∷ x10 ∷ x11 ∷ []) l = absurd (omega arith)
written (x0 ∷ x1 ∷ x2 ∷ x3 ∷ x4 ∷ x5 ∷ x6 ∷ x7 ∷ x8 ∷ x9 ∷ x10 ∷ x11 ∷ x12 ∷ []) l = absurd (omega arith)
written (x0 ∷ x1 ∷ x2 ∷ x3 ∷ x4 ∷ x5 ∷ x6 ∷ x7 ∷ x8 ∷ x9 ∷ x10 ∷ x11 ∷ x12 ∷ x13 ∷ []) l = absurd (omega arith)
written (x0 ∷ x1 ∷ x2 ∷ x3 ∷ x4 ∷ x5 ∷ x6 ∷ x7 ∷ x8 ∷ x9 ∷ x10 ∷ x11 ∷ x12 ∷ x13 ∷ x14 ∷ []) l = absurd (omega arith)
written (x0 ∷ x1 ∷ x2 ∷ x3 ∷ x4 ∷ x5 ∷ x6 ∷ x7 ∷ x8 ∷ x9 ∷ x10 ∷ x11 ∷ x12 ∷ x13 ∷ x14 ∷ x15 ∷ []) l = refl
written (x0 ∷ x1 ∷ x2 ∷ x3 ∷ x4 ∷ x5 ∷ x6 ∷ x7 ∷ x8 ∷ x9 ∷ x10 ∷ x11 ∷ x12 ∷ x13 ∷ x14 ∷ x15 ∷ x16 ∷ bs) l = absurd (omega arith)

pub bytes_restored : (bs : List ℕ) → length bs ≡ 16 → All (λ b. b < 256) bs → to_le_bytes w128 (from_le_bytes w128 bs) ≡ bs
bytes_restored bs l all =
    let small : (i : ℕ) → i < 16 → get_or bs i 0 < 256 = λ i h. All-get_or (λ b. b < 256) bs i 0 (omega arith) all in
    bytes_16 _ _ _ _ _ _ _ _ _ _ _ _ _ _ _ _ (from_le_bytes w128 bs) (small 0 (omega arith)) (small 1 (omega arith)) (small 2 (omega arith))
    (small 3 (omega arith)) (small 4 (omega arith)) (small 5 (omega arith)) (small 6 (omega arith)) (small 7 (omega arith)) (small 8 (omega arith))
    (small 9 (omega arith)) (small 10 (omega arith)) (small 11 (omega arith)) (small 12 (omega arith)) (small 13 (omega arith)) (small 14 (omega arith))
    (small 15 (omega arith)) refl ∙ written bs l

sixteen_digits : (b0 b1 b2 b3 b4 b5 b6 b7 b8 b9 b10 b11 b12 b13 b14 b15 : ℕ) → b0 < 256 → b1 < 256 → b2 < 256 → b3 < 256 → b4 < 256 → b5 < 256 → b6 < 256 →
    b7 < 256 → b8 < 256 → b9 < 256 → b10 < 256 → b11 < 256 → b12 < 256 → b13 < 256 → b14 < 256 → b15 < 256 →
    from_le_bytes w128 (b0 ∷ b1 ∷ b2 ∷ b3 ∷ b4 ∷ b5 ∷ b6 ∷ b7 ∷ b8 ∷ b9 ∷ b10 ∷ b11 ∷ b12 ∷ b13 ∷ b14 ∷ b15 ∷ []) < 2 ^ 128
sixteen_digits b0 b1 b2 b3 b4 b5 b6 b7 b8 b9 b10 b11 b12 b13 b14 b15 s0 s1 s2 s3 s4 s5 s6 s7 s8 s9 s10 s11 s12 s13 s14 s15 = omega arith

pub bytes_fit : (bs : List ℕ) → length bs ≡ 16 → All (λ b. b < 256) bs → from_le_bytes w128 bs < 2 ^ 128
bytes_fit bs l all =
    let small : (i : ℕ) → i < 16 → get_or bs i 0 < 256 = λ i h. All-get_or (λ b. b < 256) bs i 0 (omega arith) all in
    sixteen_digits _ _ _ _ _ _ _ _ _ _ _ _ _ _ _ _ (small 0 (omega arith)) (small 1 (omega arith)) (small 2 (omega arith)) (small 3 (omega arith))
    (small 4 (omega arith)) (small 5 (omega arith)) (small 6 (omega arith)) (small 7 (omega arith)) (small 8 (omega arith)) (small 9 (omega arith))
    (small 10 (omega arith)) (small 11 (omega arith)) (small 12 (omega arith)) (small 13 (omega arith)) (small 14 (omega arith)) (small 15 (omega arith))
