-- The lines that begin with a word: counts, groups, forms, cuts and bounds. Numbers are spelled
-- plainly and lie below 2^62, and a line ends with 0.
use Rattle.std.specs.Prelude.{◌≡◌, ℕ, zero, suc, ◌≤◌, Bool, false, List, [], ◌∷◌, map, length}
use Rattle.std.specs.Prelude.{drop, Option, Some, None, if◌then◌else◌}
use Rattle.std.specs.Str.{bytes_eq}
use lib.Chars.{codes}
use Rattle.cnf.specs.Literal.{Literal}
use Rattle.text.specs.Text.{tokens_of}
use Rattle.lrat_read.specs.Form.{signed_of, unsigned_of, block_of, literal_from}
use Rattle.lrat_read.specs.declared.words.Word.{Word}
use Rattle.lrat_read.specs.declared.words.Word.TheVariants.{Count, More, Group, Form, Cut, Bound}
use Rattle.lrat_read.specs.declared.words.WordAt.{WordAt}

-- a fact, and how many times it is taken: that of the clause with this id, or of the count or group
-- with this number where there is a dash
pub record NamedFact : Type 0 where
  pub weight : ℕ
  pub is_numbered : Bool
  pub number : ℕ

pub data WordLine : Type 0 where
  -- count H x1 .. xm 0
  CountLine : (outputs : ℕ) (inputs : List Literal) → WordLine
  -- more J 0
  MoreLine : (number : ℕ) → WordLine
  -- group x1 .. xm 0 i1 .. iq 0
  GroupLine : (inputs : List Literal) (ids : List ℕ) → WordLine
  -- form D W1 f1 .. Wq fq 0; with + in place of D there is no scale
  FormLine : (scale : Option ℕ) (facts : List NamedFact) → WordLine
  -- cut l1 .. lp 0
  CutLine : List Literal → WordLine
  -- bound L 0
  BoundLine : (lower : ℕ) → WordLine

-- the word that a token is
abbrev pub word_of : List ℕ → Option Word
word_of t =
    if bytes_eq t (codes "cut") then Some Cut
    else if bytes_eq t (codes "form") then Some Form
    else if bytes_eq t (codes "bound") then Some Bound
    else if bytes_eq t (codes "count") then Some Count
    else if bytes_eq t (codes "more") then Some More
    else if bytes_eq t (codes "group") then Some Group
    else None

-- literals up to the first 0, and what follows that
abbrev pub clause_block_of : List (List ℕ) → Option (List Literal × List (List ℕ))
clause_block_of ts = by (block_of ts)
  where
    by : Option (List (Bool × ℕ) × List (List ℕ)) → Option (List Literal × List (List ℕ))
    by None = None
    by (Some (xs, rest)) = Some (map literal_from xs, rest)

-- literals, and after them a 0, which is the last token
abbrev pub ended_literals : List (List ℕ) → Option (List Literal)
ended_literals ts = by (clause_block_of ts)
  where
    by : Option (List Literal × List (List ℕ)) → Option (List Literal)
    by None = None
    by (Some (ls, [])) = Some ls
    by (Some (ls, t ∷ rest)) = None

-- numbers from 1 without dashes, and after them a 0, which is the last token
abbrev pub ended_ids : List (List ℕ) → Option (List ℕ)
ended_ids [] = None
ended_ids (t ∷ ts) = on (unsigned_of t) ts (ended_ids ts)
  where
    onto : ℕ → Option (List ℕ) → Option (List ℕ)
    onto n None = None
    onto n (Some ns) = Some (n ∷ ns)

    on : Option ℕ → List (List ℕ) → Option (List ℕ) → Option (List ℕ)
    on None us more = None
    on (Some zero) [] more = Some []
    on (Some zero) (u ∷ us) more = None
    on (Some (suc n)) us more = onto (suc n) more

-- one number, and after it a 0, which is the last token
abbrev pub ended_number : List (List ℕ) → Option ℕ
ended_number (t ∷ u ∷ []) = by (unsigned_of t) (unsigned_of u)
  where
    by : Option ℕ → Option ℕ → Option ℕ
    by (Some n) (Some zero) = Some n
    by m n = None
ended_number ts = None

-- weights from 1, each with a fact, and after them a 0, which is the last token
abbrev pub ended_facts : List (List ℕ) → Option (List NamedFact)
ended_facts [] = None
ended_facts (t ∷ []) = by (unsigned_of t)
  where
    by : Option ℕ → Option (List NamedFact)
    by (Some zero) = Some []
    by n = None
ended_facts (t ∷ u ∷ ts) = by (unsigned_of t) (signed_of u) (ended_facts ts)
  where
    by : Option ℕ → Option (Bool × ℕ) → Option (List NamedFact) → Option (List NamedFact)
    by (Some (suc w)) (Some (s, suc n)) (Some fs) =
        Some (record { weight = suc w; is_numbered = s; number = suc n } ∷ fs)
    by w f fs = None

-- what the tokens after a word spell
abbrev pub after_word : Word → List (List ℕ) → Option WordLine
after_word Cut ts = by (ended_literals ts)
  where
    by : Option (List Literal) → Option WordLine
    by None = None
    by (Some ls) = Some (CutLine ls)
after_word Form [] = None
after_word Form (t ∷ ts) =
    if bytes_eq t (codes "+") then by (Some None) (ended_facts ts)
    else by (scale (unsigned_of t)) (ended_facts ts)
  where
    scale : Option ℕ → Option (Option ℕ)
    scale None = None
    scale (Some d) = Some (Some d)

    by : Option (Option ℕ) → Option (List NamedFact) → Option WordLine
    by None fs = None
    by (Some d) None = None
    by (Some d) (Some fs) = Some (FormLine d fs)
after_word Bound ts = by (ended_number ts)
  where
    by : Option ℕ → Option WordLine
    by None = None
    by (Some n) = Some (BoundLine n)
after_word Count [] = None
after_word Count (t ∷ ts) = by (unsigned_of t) (ended_literals ts)
  where
    by : Option ℕ → Option (List Literal) → Option WordLine
    by None ls = None
    by (Some h) None = None
    by (Some h) (Some []) = None
    by (Some h) (Some (l ∷ ls)) = Some (CountLine h (l ∷ ls))
after_word More ts = by (ended_number ts)
  where
    by : Option ℕ → Option WordLine
    by None = None
    by (Some zero) = None
    by (Some (suc j)) = Some (MoreLine (suc j))
after_word Group ts = by (clause_block_of ts)
  where
    with : List Literal → Option (List ℕ) → Option WordLine
    with ls None = None
    with ls (Some is) = Some (GroupLine ls is)

    by : Option (List Literal × List (List ℕ)) → Option WordLine
    by None = None
    by (Some (ls, rest)) = with ls (ended_ids rest)

-- what the tokens of a line spell that begins with a word, if anything
abbrev pub word_line_of : List (List ℕ) → Option (Option WordLine)
word_line_of [] = None
word_line_of (t ∷ ts) = by (word_of t)
  where
    by : Option Word → Option (Option WordLine)
    by None = None
    by (Some w) = Some (after_word w ts)

-- which word begins a line, and where what follows it begins
abbrev pub IsWordAt : List ℕ → Option WordAt → Type 0
IsWordAt line None = word_line_of (tokens_of line) ≡ None
IsWordAt line (Some w) =
    (t : List ℕ) × (tokens_of line ≡ t ∷ tokens_of (drop w.end line)) × (word_of t ≡ Some w.word)
    × (w.end ≤ length line)

-- the first token is a plus sign
abbrev pub begins_with_plus : List (List ℕ) → Bool
begins_with_plus [] = false
begins_with_plus (t ∷ ts) = bytes_eq t (codes "+")

-- the place behind a plus sign, where that is the next token
abbrev pub IsAfterPlus : List ℕ → ℕ → Option ℕ → Type 0
IsAfterPlus line at None = begins_with_plus (tokens_of (drop at line)) ≡ false
IsAfterPlus line at (Some end) =
    (tokens_of (drop at line) ≡ codes "+" ∷ tokens_of (drop end line)) × (end ≤ length line)
