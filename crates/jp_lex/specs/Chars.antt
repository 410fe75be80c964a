-- The classes of bytes that tokens are made of. All are ASCII.
use Rattle.std.specs.Prelude.{ℕ, ◌+◌, Bool, ◌&&◌, ◌||◌, ◌==◌, nat_le, if◌then◌else◌}

-- space, tab, line feed and carriage return
abbrev pub is_white : ℕ → Bool
is_white b = b == 32 || b == 9 || b == 10 || b == 13

-- `0` to `9`
abbrev pub is_digit : ℕ → Bool
is_digit b = nat_le 48 b && nat_le b 57

-- `A` to `Z`
abbrev pub is_upper : ℕ → Bool
is_upper b = nat_le 65 b && nat_le b 90

-- `a` to `z`
abbrev pub is_lower : ℕ → Bool
is_lower b = nat_le 97 b && nat_le b 122

-- what a word begins with: an ASCII letter or `_`
abbrev pub is_letter : ℕ → Bool
is_letter b = is_upper b || is_lower b || b == 95

-- what a word goes on with: a letter, `_`, a digit or `$`
abbrev pub is_word_byte : ℕ → Bool
is_word_byte b = is_letter b || is_digit b || b == 36

-- the byte, an upper case letter folded to lower case
abbrev pub lower : ℕ → ℕ
lower b = if is_upper b then b + 32 else b
