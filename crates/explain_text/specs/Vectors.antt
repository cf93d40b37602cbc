-- What is shown of lines.
use Rattle.std.specs.Prelude.{◌≡◌, [], ◌∷◌, refl}
use Rattle.explain_text.specs.Showing.{shown_text}

-- an umlaut (C3 84), an em dash (E2 80 94) and a violin clef (F0 9D 84 9E) are shown whole
three_characters :
    shown_text (195 ∷ 132 ∷ 226 ∷ 128 ∷ 148 ∷ 240 ∷ 157 ∷ 132 ∷ 158 ∷ [])
    ≡ 195 ∷ 132 ∷ 226 ∷ 128 ∷ 148 ∷ 240 ∷ 157 ∷ 132 ∷ 158 ∷ []
three_characters = refl

-- ESC, the control sequence introducer as U+009B and as a byte, and U+202E
commands :
    shown_text (27 ∷ 194 ∷ 155 ∷ 155 ∷ 226 ∷ 128 ∷ 174 ∷ [])
    ≡ 63 ∷ 63 ∷ 63 ∷ 63 ∷ 63 ∷ 63 ∷ 63 ∷ []
commands = refl

-- ESC spelled in two, three and four bytes, a surrogate, and a character that is cut off
no_characters :
    shown_text (192 ∷ 155 ∷ 224 ∷ 128 ∷ 155 ∷ 240 ∷ 128 ∷ 128 ∷ 155 ∷ 237 ∷ 160 ∷ 128 ∷ 226 ∷ 128
    ∷ [])
    ≡ 63 ∷ 63 ∷ 63 ∷ 63 ∷ 63 ∷ 63 ∷ 63 ∷ 63 ∷ 63 ∷ 63 ∷ 63 ∷ 63 ∷ 63 ∷ 63 ∷ []
no_characters = refl
