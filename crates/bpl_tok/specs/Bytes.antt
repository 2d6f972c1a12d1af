-- What a byte is: white space, a digit, or a part of an identifier. All are of ASCII.
use Rattle.std.specs.Prelude.{ℕ, Bool, not, ◌&&◌, ◌||◌, ◌==◌, nat_le}
use Rattle.std.specs.Char.{is_ascii_digit}

-- tab, line feed, vertical tab, form feed, carriage return and space
abbrev pub is_white : ℕ → Bool
is_white b = (nat_le 9 b && nat_le b 13) || b == 32

-- no line feed, so a byte of the line
abbrev pub is_in_line : ℕ → Bool
is_in_line b = not (b == 10)

abbrev pub is_letter : ℕ → Bool
is_letter b = (nat_le 65 b && nat_le b 90) || (nat_le 97 b && nat_le b 122)

-- one of `_ . $ # ' ~ ^ ?` and the backquote
abbrev pub is_mark : ℕ → Bool
is_mark b = b == 95 || b == 46 || b == 36 || b == 35 || b == 39 || b == 126 || b == 94 || b == 63 || b == 96

-- what an identifier begins with
abbrev pub begins_ident : ℕ → Bool
begins_ident b = is_letter b || is_mark b

-- what an identifier is made of
abbrev pub in_ident : ℕ → Bool
in_ident b = begins_ident b || is_ascii_digit b
