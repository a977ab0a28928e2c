-- Names are ASCII.
use Rattle.std.proofs.Common.{◌≡◌, ◌<◌, ℕ, zero, suc, Bool, true, false, List, [], ◌∷◌, ◌&&◌, refl, arith, IsAscii, IsUtf8}
use Rattle.std.specs.List.{list_all}
use Rattle.std.proofs.lemmas.Bool.Decides.{nat_tests}
use Rattle.std.proofs.lemmas.Str.{IsUtf8-from_ascii}
use Rattle.fm_words.specs.Words.{is_letter, is_name_byte, is_name}

-- both tests hold where their conjunction does
pub both : (a b : Bool) → (a && b) ≡ true → (a ≡ true) × (b ≡ true)
both true b h = (refl, h)
both false b h = (h, absurd (let e : false ≡ true = h in cc))

letter_below : (b : ℕ) → is_letter b ≡ true → b < 128
letter_below b h = grind (arith, nat_tests)

byte_below : (b : ℕ) → is_name_byte b ≡ true → b < 128
byte_below b h = grind (arith, nat_tests)

bytes_are_ascii : (w : List ℕ) → list_all is_name_byte w ≡ true → IsAscii w
bytes_are_ascii [] h i = omega arith
bytes_are_ascii (b ∷ bs) h zero = byte_below b (both (is_name_byte b) (list_all is_name_byte bs) h).0
bytes_are_ascii (b ∷ bs) h (suc i) = bytes_are_ascii bs (both (is_name_byte b) (list_all is_name_byte bs) h).1 i

name_is_ascii : (w : List ℕ) → is_name w ≡ true → IsAscii w
name_is_ascii [] h i = omega arith
name_is_ascii (b ∷ bs) h zero = letter_below b (both (is_letter b) (list_all is_name_byte bs) h).0
name_is_ascii (b ∷ bs) h (suc i) = bytes_are_ascii bs (both (is_letter b) (list_all is_name_byte bs) h).1 i

pub name_is_utf8 : (w : List ℕ) → is_name w ≡ true → IsUtf8 w
name_is_utf8 w h = IsUtf8-from_ascii w (name_is_ascii w h)
