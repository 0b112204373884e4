-- The grammar of a tessellation file. A line is given by its words, and it is good or bad after the
-- lines before it.
use Rattle.std.specs.Prelude.{◌≡◌, ℕ, suc, ◌<◌, ◌≤◌, Bool, true, false, ◌==◌, ◌&&◌, nat_le, if◌then◌else◌, ⊤, List, [], ◌∷◌, length, map, take, slice_index_or, Option, IsSome, codes}
use Rattle.std.specs.declared.option.Option.TheVariants.{Some, None}
use Rattle.std.specs.Option.{option_or}
use Rattle.std.specs.List.{list_any, filter_map}
use Rattle.std.specs.Str.{bytes_eq}
use Rattle.short_numbers.specs.Numbers.{number}
use Rattle.tess_text.specs.declared.entry.Entry.{Entry}
use Rattle.tess_text.specs.declared.entry.Entry.TheVariants.{Kind, Join, Corner}
use Rattle.tess_text.specs.declared.version.Version.{Version}
use Rattle.tess_text.specs.declared.version.Version.TheVariants.{One, Two}
use Rattle.tess_text.specs.FileLines.{is_nonempty, word_lines}

-- a number of a file is at most 255
abbrev pub small : Option ℕ → Option ℕ
small None = None
small (Some n) = if nat_le n 255 then Some n else None

-- the number that a word is, if it is one: one to nine digits with a value of at most 255
unfoldable pub small_number : List ℕ → Option ℕ
small_number word = small (number word)

-- `kind K SIDES REPEAT`
abbrev pub kind_entry : List (Option ℕ) → Option Entry
kind_entry (Some k ∷ Some sides ∷ Some repeat ∷ []) = Some (Kind k sides repeat)
kind_entry _ = None

-- `join K S K2 S2`, and `mirror K S K2 S2`, whose mark is true
abbrev pub join_entry : Bool → List (Option ℕ) → Option Entry
join_entry mark (Some k ∷ Some s ∷ Some k2 ∷ Some s2 ∷ []) = Some (Join k s k2 s2 mark)
join_entry mark _ = None

-- `corner K S V`
abbrev pub corner_entry : List (Option ℕ) → Option Entry
corner_entry (Some k ∷ Some s ∷ Some v ∷ []) = Some (Corner k s v)
corner_entry _ = None

-- what the words of a line say of the tessellation, if anything
abbrev pub entry : List (List ℕ) → Option Entry
entry [] = None
entry (word ∷ fields) =
    if bytes_eq word (codes "kind") then kind_entry (map small_number fields)
    else if bytes_eq word (codes "join") then join_entry false (map small_number fields)
    else if bytes_eq word (codes "mirror") then join_entry true (map small_number fields)
    else if bytes_eq word (codes "corner") then corner_entry (map small_number fields)
    else None

-- all that these lines say of the tessellation
abbrev pub entries : List (List (List ℕ)) → List Entry
entries lines = filter_map entry lines

-- the number of sides and the repeat of each kind, in the order of the kind lines
abbrev pub shapes : List Entry → List (ℕ × ℕ)
shapes [] = []
shapes (Kind k sides repeat ∷ es) = (sides, repeat) ∷ shapes es
shapes (Join k s k2 s2 mark ∷ es) = shapes es
shapes (Corner k s v ∷ es) = shapes es

-- the kind of this side is among the kind lines, and the side is below its repeat
abbrev pub IsSide : List Entry → ℕ × ℕ → Type 0
IsSide es d = (d.0 < length (shapes es)) × (d.1 < (slice_index_or (shapes es) d.0 (0, 0)).1)

-- whether two pairs of a kind and a residue are the same
abbrev pub is_same : ℕ × ℕ → ℕ × ℕ → Bool
is_same d e = (d.0 == e.0) && (d.1 == e.1)

-- the side that a line joins to side d, and the mark of the join, if it is a join of d
abbrev pub partner_in : Entry → ℕ × ℕ → Option (ℕ × ℕ × Bool)
partner_in (Kind k sides repeat) d = None
partner_in (Join k s k2 s2 mark) d =
    if is_same d (k, s) then Some (k2, s2, mark)
    else if is_same d (k2, s2) then Some (k, s, mark)
    else None
partner_in (Corner k s v) d = None

-- the side that is joined to side d, and the mark of the join, if one is
abbrev pub partner : List Entry → ℕ × ℕ → Option (ℕ × ℕ × Bool)
partner [] d = None
partner (e ∷ es) d = option_or (partner_in e d) (partner es d)

-- the valence that a line gives to the corner at side d, if it gives one
abbrev pub valence_in : Entry → ℕ × ℕ → Option ℕ
valence_in (Kind k sides repeat) d = None
valence_in (Join k s k2 s2 mark) d = None
valence_in (Corner k s v) d = if is_same d (k, s) then Some v else None

-- the valence of the corner at side d, if one is given
abbrev pub valence : List Entry → ℕ × ℕ → Option ℕ
valence [] d = None
valence (e ∷ es) d = option_or (valence_in e d) (valence es d)

-- d is a side that no line before has joined
pub record IsUnjoined (es : List Entry) (d : ℕ × ℕ) : Type 0 where
  pub side : IsSide es d
  pub free : partner es d ≡ None

-- d is a side whose corner no line before has given
pub record IsUngiven (es : List Entry) (d : ℕ × ℕ) : Type 0 where
  pub side : IsSide es d
  pub free : valence es d ≡ None

-- An entry is good after those before it. A kind has the number of kinds before it; a join has two
-- sides that are not joined yet; a corner is not given yet.
abbrev pub IsGoodEntry : List Entry → Entry → Type 0
IsGoodEntry es (Kind k sides repeat) = k ≡ length (shapes es)
IsGoodEntry es (Join k s k2 s2 mark) = IsUnjoined es (k, s) × IsUnjoined es (k2, s2)
IsGoodEntry es (Corner k s v) = IsUngiven es (k, s)

-- A file of a version may say an entry: version 1 has no mirrored joins, and version 2 has at most
-- 128 kinds.
abbrev pub IsAllowed : Version → Entry → Type 0
IsAllowed One (Kind k sides repeat) = ⊤
IsAllowed One (Join k s k2 s2 mark) = mark ≡ false
IsAllowed One (Corner k s v) = ⊤
IsAllowed Two (Kind k sides repeat) = k ≤ 127
IsAllowed Two (Join k s k2 s2 mark) = ⊤
IsAllowed Two (Corner k s v) = ⊤

-- the words of the first line that has any: `tess 1` or `tess 2`
abbrev pub head : Version → List (List ℕ)
head One = codes "tess" ∷ codes "1" ∷ []
head Two = codes "tess" ∷ codes "2" ∷ []

-- whether the words of a line are `tess 2`
abbrev pub is_second : List (List ℕ) → Bool
is_second (word ∷ number ∷ []) = bytes_eq word (codes "tess") && bytes_eq number (codes "2")
is_second _ = false

-- the version of a file by its first line with words: 2 where that is `tess 2`, else 1
abbrev pub version_of : List (List (List ℕ)) → Version
version_of [] = One
version_of ([] ∷ lines) = version_of lines
version_of ((word ∷ fields) ∷ lines) = if is_second (word ∷ fields) then Two else One

-- whether one of the lines has words
abbrev pub has_begun : List (List (List ℕ)) → Bool
has_begun before = list_any is_nonempty before

-- A line is good after those before it. The first line with words is a head, and each later line
-- with words says an entry that is good and that the version allows.
pub record IsGoodLine (before : List (List (List ℕ))) (line : List (List ℕ)) : Type 0 where
  pub first : has_begun before ≡ false → 0 < length line → (v : Version) × (line ≡ head v)
  pub later : has_begun before ≡ true → 0 < length line
      → (e : Entry) × (entry line ≡ Some e) × IsGoodEntry (entries before) e
      × IsAllowed (version_of before) e

-- The end of the file is good after its lines. They have the head and at least a kind, and each
-- side has a partner and a corner.
pub record IsGoodEnd (lines : List (List (List ℕ))) : Type 0 where
  pub begun : has_begun lines ≡ true
  pub kinds : 1 ≤ length (shapes (entries lines))
  pub joins : (d : ℕ × ℕ) → IsSide (entries lines) d → IsSome (partner (entries lines) d)
  pub corners : (d : ℕ × ℕ) → IsSide (entries lines) d → IsSome (valence (entries lines) d)

-- Line i, counted from 0, is good; behind the last line stands the end of the file.
pub record IsGoodAt (lines : List (List (List ℕ))) (i : ℕ) : Type 0 where
  pub line : i < length lines → IsGoodLine (take i lines) (slice_index_or lines i [])
  pub end : i ≡ length lines → IsGoodEnd lines

-- the file is in the grammar: no line is bad, and neither is the end
abbrev pub IsInGrammar : List ℕ → Type 0
IsInGrammar bytes = (i : ℕ) → i ≤ length (word_lines bytes) → IsGoodAt (word_lines bytes) i

-- line i, counted from 0, is the first that is bad
pub record IsFirstBadAt (lines : List (List (List ℕ))) (i : ℕ) : Type 0 where
  pub place : i ≤ length lines
  pub bad : ¬ (IsGoodAt lines i)
  pub earlier : (j : ℕ) → j < i → IsGoodAt lines j

-- line n, counted from 1, is the first bad line of the file
abbrev pub IsFirstBadLine : List ℕ → ℕ → Type 0
IsFirstBadLine bytes n = (i : ℕ) × (n ≡ suc i) × IsFirstBadAt (word_lines bytes) i
