-- Numbers in places, the first the most significant: octets, BCD octets and decimal digits are one definition over the base, an element's value and a value's element.
use Rattle.std.specs.Prelude.{Bool, true, ◌&&◌, List, [], ◌∷◌, ◌++◌, ℕ, zero, suc, ◌+◌, ◌-◌, ◌*◌, ◌/◌, ◌%◌, leb, ltb, get_or}

-- the number that the first w elements write in base b; v gives an element's value
abbrev pub number : (b : ℕ) (v : ℕ → ℕ) → List ℕ → ℕ → ℕ
number b v s zero = 0
number b v s (suc w) = number b v s w * b + v (get_or s w 0)

-- the w elements that write n in base b, n cut to the width; p gives a value's element
abbrev pub places : (b : ℕ) (p : ℕ → ℕ) → ℕ → ℕ → List ℕ
places b p zero n = []
places b p (suc w) n = places b p w (n / b) ++ (p (n % b) ∷ [])

-- each of the first w elements keeps its rule
abbrev pub all_good : (ok : ℕ → Bool) → List ℕ → ℕ → Bool
all_good ok s zero = true
all_good ok s (suc w) = all_good ok s w && ok (get_or s w 0)

-- ---- octets: big-endian counts
abbrev pub octet_value : ℕ → ℕ
octet_value x = x

abbrev pub octet_of : ℕ → ℕ
octet_of d = d

abbrev pub octet_good : ℕ → Bool
octet_good x = ltb x 256

abbrev pub be : List ℕ → ℕ → ℕ
be s w = number 256 octet_value s w

abbrev pub octets : ℕ → ℕ → List ℕ
octets w n = places 256 octet_of w n

-- ---- BCD: two decimal digits in an octet
abbrev pub bcd_value : ℕ → ℕ
bcd_value x = x / 16 * 10 + x % 16

abbrev pub bcd_element : ℕ → ℕ
bcd_element d = d / 10 * 16 + d % 10

abbrev pub bcd_good : ℕ → Bool
bcd_good x = leb (x / 16) 9 && leb (x % 16) 9

abbrev pub bcd_of : List ℕ → ℕ → ℕ
bcd_of s w = number 100 bcd_value s w

abbrev pub bcd : ℕ → ℕ → List ℕ
bcd w n = places 100 bcd_element w n

-- ---- ASCII decimal digits
abbrev pub digit_value : ℕ → ℕ
digit_value x = x - 48

abbrev pub digit_of : ℕ → ℕ
digit_of d = 48 + d

abbrev pub digit_good : ℕ → Bool
digit_good x = leb 48 x && leb x 57

abbrev pub decimal_of : List ℕ → ℕ → ℕ
decimal_of s w = number 10 digit_value s w

abbrev pub digits : ℕ → ℕ → List ℕ
digits w n = places 10 digit_of w n
