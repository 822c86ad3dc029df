-- Levels and tricks: 0 to 9 are one digit, 10 to 13 are a 1 and a digit.
use Rattle.std.proofs.Common.{◌≡◌, ℕ, ◌+◌, ◌/◌, ◌%◌, ◌<◌, ◌≤◌, List, [], ◌∷◌, ◌++◌, length, get_or, decimal, sym, ap, ◌∙◌, arith}
use Rattle.std.specs.List.{between}
use Rattle.std.proofs.lemmas.Fmt.{decimal_digit, decimal_step}
use Rattle.std.proofs.lemmas.Slice.{first_rest, between_to_end}
use Rattle.slip.specs.Parts.{IsEnd}

pub one_digit : (n : ℕ) (rest : List ℕ) → n < 10 → decimal n ++ rest ≡ (48 + n) ∷ rest
one_digit n rest small = ap (λ digits. digits ++ rest) (decimal_digit n small)

pub ten_or_more : (n : ℕ) → 10 ≤ n → n ≤ 13 → decimal n ≡ 49 ∷ (38 + n) ∷ []
ten_or_more n low high =
    let tens : n / 10 ≡ 1 = omega arith in
    let ones : 48 + n % 10 ≡ 38 + n = omega arith in
    let first : decimal (n / 10) ≡ 49 ∷ [] = ap decimal tens ∙ decimal_digit 1 (omega arith) in
    decimal_step n low (omega arith) ∙ (λ i. first i ++ (ones i ∷ []))

pub ruleset written = (decimal_digit, ten_or_more)

pub two_digits : (n : ℕ) (rest : List ℕ) → 10 ≤ n → n ≤ 13 → decimal n ++ rest ≡ 49 ∷ (38 + n) ∷ rest
two_digits n rest low high = ap (λ digits. digits ++ rest) (ten_or_more n low high)

-- what ends a number begins with no digit
pub no_second : (n : ℕ) (rest : List ℕ) → n < 10 → IsEnd rest → get_or (decimal n ++ rest) 1 0 ≤ 32
no_second n [] small end = omega (arith, ap (λ l. get_or l 1 0) (one_digit n [] small))
no_second n (b ∷ rest) small end = omega (arith, end, ap (λ l. get_or l 1 0) (one_digit n (b ∷ rest) small))

-- an input as its first byte or two, and the rest
one_first : (input : List ℕ) → 1 ≤ length input → get_or input 0 0 ∷ between 1 (length input) input ≡ input
one_first input some = sym (first_rest input 0 some)

two_first : (input : List ℕ) → 2 ≤ length input → get_or input 0 0 ∷ get_or input 1 0 ∷ between 2 (length input) input ≡ input
two_first [] some = absurd (omega arith)
two_first (b ∷ []) some = absurd (omega arith)
two_first (b ∷ d ∷ rest) some = ap (λ r. b ∷ d ∷ r) (between_to_end (b ∷ d ∷ rest) 2 (length (b ∷ d ∷ rest)) (omega arith))

-- an input that begins with a number, and what is behind that
pub one_at : (n : ℕ) (input : List ℕ) → 1 ≤ length input → 48 + n ≡ get_or input 0 0 → n < 10 → decimal n ++ between 1 (length input) input ≡ input
one_at n input some first small = grind (arith, one_digit, one_first)

pub behind_one : (n : ℕ) (rest input : List ℕ) → n < 10 → decimal n ++ rest ≡ input → between 1 (length input) input ≡ rest
behind_one n rest input small e =
    let shape : (48 + n) ∷ rest ≡ input = sym (one_digit n rest small) ∙ e in
    let first = one_first input (omega (arith, ap length shape)) in
    cc

pub two_at : (n : ℕ) (input : List ℕ) → 2 ≤ length input → 49 ≡ get_or input 0 0 → 38 + n ≡ get_or input 1 0 → 10 ≤ n → n ≤ 13 → decimal n ++ between 2 (length input) input ≡ input
two_at n input some first second low high = grind (arith, two_digits, two_first)

pub behind_two : (n : ℕ) (rest input : List ℕ) → 10 ≤ n → n ≤ 13 → decimal n ++ rest ≡ input → between 2 (length input) input ≡ rest
behind_two n rest input low high e =
    let shape : 49 ∷ (38 + n) ∷ rest ≡ input = sym (two_digits n rest low high) ∙ e in
    let first = two_first input (omega (arith, ap length shape)) in
    cc

pub ruleset levels = (one_digit, one_at, behind_one)

pub ruleset tricks = (one_digit, one_at, behind_one, two_digits, two_at, behind_two, no_second)

pub digit_alone : (m n : ℕ) (r s : List ℕ) → m < 10 → n < 10 → decimal m ++ r ≡ decimal n ++ s → m ≡ n
digit_alone m n r s small small' e = grind (arith, one_digit)

pub tricks_alone : (m n : ℕ) (r s : List ℕ) → m ≤ 13 → n ≤ 13 → IsEnd r → IsEnd s → decimal m ++ r ≡ decimal n ++ s → m ≡ n
tricks_alone m n r s most most' end end' e = grind (arith, one_digit, two_digits, no_second)
