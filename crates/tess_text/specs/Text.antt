-- The canonical text of a tessellation, of version 1: the head, and then a line for each entry.
use Rattle.std.specs.Prelude.{ℕ, ◌+◌, Bool, true, false, ◌==◌, ◌||◌, ◌&&◌, nat_lt, if◌then◌else◌, List, [], ◌∷◌, ◌++◌, codes, decimal}
use Rattle.tile_model.specs.Tessellations.{TileKind}
use Rattle.tess_text.specs.declared.entry.Entry.{Entry}
use Rattle.tess_text.specs.declared.entry.Entry.TheVariants.{Kind, Join, Corner}

-- each number behind a space, and a line feed
abbrev pub numbers_text : List ℕ → List ℕ
numbers_text [] = 10 ∷ []
numbers_text (n ∷ ns) = 32 ∷ (decimal n ++ numbers_text ns)

-- the first word of a join
abbrev pub join_word : Bool → List ℕ
join_word false = codes "join"
join_word true = codes "mirror"

-- the line of an entry
abbrev pub entry_text : Entry → List ℕ
entry_text (Kind k sides repeat) = codes "kind" ++ numbers_text (k ∷ sides ∷ repeat ∷ [])
entry_text (Join k s k2 s2 mark) = join_word mark ++ numbers_text (k ∷ s ∷ k2 ∷ s2 ∷ [])
entry_text (Corner k s v) = codes "corner" ++ numbers_text (k ∷ s ∷ v ∷ [])

-- the lines of all entries
abbrev pub entries_text : List Entry → List ℕ
entries_text [] = []
entries_text (e ∷ es) = entry_text e ++ entries_text es

-- the kinds, in order, the first of which has number k
abbrev pub kind_entries : ℕ → List TileKind → List Entry
kind_entries k [] = []
kind_entries k (kind ∷ kinds) = Kind k kind.sides kind.repeat ∷ kind_entries (k + 1) kinds

-- whether a side stands before another, by kinds and then by residues
abbrev pub is_before : ℕ × ℕ → ℕ × ℕ → Bool
is_before d e = nat_lt d.0 e.0 || ((d.0 == e.0) && nat_lt d.1 e.1)

-- the joins of kind k from residue s on, but those whose partner stands before the side
abbrev pub partner_entries : ℕ → ℕ → List (ℕ × ℕ) → List Entry
partner_entries k s [] = []
partner_entries k s (p ∷ ps) =
    (if is_before p (k, s) then [] else Join k s p.0 p.1 false ∷ []) ++ partner_entries k (s + 1) ps

-- the joins of all kinds, the first of which has number k
abbrev pub join_entries : ℕ → List TileKind → List Entry
join_entries k [] = []
join_entries k (kind ∷ kinds) = partner_entries k 0 kind.partner ++ join_entries (k + 1) kinds

-- the corners of kind k from residue s on
abbrev pub valence_entries : ℕ → ℕ → List ℕ → List Entry
valence_entries k s [] = []
valence_entries k s (v ∷ vs) = Corner k s v ∷ valence_entries k (s + 1) vs

-- the corners of all kinds, the first of which has number k
abbrev pub corner_entries : ℕ → List TileKind → List Entry
corner_entries k [] = []
corner_entries k (kind ∷ kinds) = valence_entries k 0 kind.valence ++ corner_entries (k + 1) kinds

-- the entries of a tessellation: its kinds, its joins and its corners
abbrev pub all_entries : List TileKind → List Entry
all_entries kinds = kind_entries 0 kinds ++ (join_entries 0 kinds ++ corner_entries 0 kinds)

-- the canonical text
abbrev pub tess_text : List TileKind → List ℕ
tess_text kinds = codes "tess 1\n" ++ entries_text (all_entries kinds)
