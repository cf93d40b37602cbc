-- How a text is shown on a terminal.
use Rattle.std.specs.Prelude.{ℕ, ◌-◌, Bool, not, ◌&&◌, ◌||◌, List, [], ◌∷◌, slice_index}
use Rattle.std.specs.Prelude.{nat_le, nat_lt, ◌==◌, if◌then◌else◌}

abbrev pub is_between : ℕ → ℕ → ℕ → Bool
is_between b least most = nat_le least b && nat_le b most

-- a byte that goes on with a character of UTF-8 (RFC 3629, section 4)
abbrev pub is_tail : ℕ → Bool
is_tail b = is_between b 128 191

-- the bytes begin with a character of two bytes
abbrev pub is_two : List ℕ → Bool
is_two bs = is_between (slice_index bs 0) 194 223 && is_tail (slice_index bs 1)

-- of three bytes: none that two can spell, and no surrogate
abbrev pub is_three : List ℕ → Bool
is_three bs =
    is_between (slice_index bs 0) 224 239
    && (is_between (slice_index bs 1) (if slice_index bs 0 == 224 then 160 else 128)
    (if slice_index bs 0 == 237 then 159 else 191) && is_tail (slice_index bs 2))

-- of four bytes: none that three can spell, and none above U+10FFFF
abbrev pub is_four : List ℕ → Bool
is_four bs =
    is_between (slice_index bs 0) 240 244
    && (is_between (slice_index bs 1) (if slice_index bs 0 == 240 then 144 else 128)
    (if slice_index bs 0 == 244 then 143 else 191)
    && (is_tail (slice_index bs 2) && is_tail (slice_index bs 3)))

-- how many bytes the character takes with which the bytes begin; 0 where they begin with none
abbrev pub character_length : List ℕ → ℕ
character_length bs =
    if nat_lt (slice_index bs 0) 128 then 1
    else if is_two bs then 2
    else if is_three bs then 3
    else if is_four bs then 4
    else 0

-- a control character but the tab: below U+0020, U+007F, or U+0080 to U+009F
abbrev pub is_control : List ℕ → Bool
is_control bs =
    (nat_lt (slice_index bs 0) 32 && not (slice_index bs 0 == 9))
    || ((slice_index bs 0 == 127)
    || ((slice_index bs 0 == 194) && is_between (slice_index bs 1) 128 159))

-- one that sets the direction of what follows: U+061C, U+200E, U+200F, U+202A to U+202E, or U+2066
-- to U+2069
abbrev pub sets_direction : List ℕ → Bool
sets_direction bs =
    ((slice_index bs 0 == 216) && (slice_index bs 1 == 156))
    || ((slice_index bs 0 == 226)
    && (((slice_index bs 1 == 128)
    && (is_between (slice_index bs 2) 142 143 || is_between (slice_index bs 2) 170 174))
    || ((slice_index bs 1 == 129) && is_between (slice_index bs 2) 166 169)))

-- how many bytes it takes, if it may be shown; else 0
abbrev pub visible_length : List ℕ → ℕ
visible_length bs = if is_control bs || sets_direction bs then 0 else character_length bs

-- how many bytes of a character that is shown are left, where `left` were left before it and these
-- bytes are next
abbrev pub left_at : ℕ → List ℕ → ℕ
left_at left bs = if left == 0 then visible_length bs else left

-- a byte as it is shown: a question mark where none is left of such a character
abbrev pub shown : ℕ → ℕ → ℕ
shown left b = if left == 0 then 63 else b

-- a text as it is shown behind such a character
abbrev pub shown_behind : ℕ → List ℕ → List ℕ
shown_behind left [] = []
shown_behind left (b ∷ bs) =
    shown (left_at left (b ∷ bs)) b ∷ shown_behind (left_at left (b ∷ bs) - 1) bs

-- a text as it is shown
abbrev pub shown_text : List ℕ → List ℕ
shown_text text = shown_behind 0 text
