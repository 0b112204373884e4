-- Rows after a write, and with an empty row more.
use Rattle.std.proofs.Common.{◌≡◌, ◌≢◌, ◌⊎◌, inl, inr, ℕ, ◌<◌, ◌≤◌, ◌+◌, List, [], ◌∷◌, ◌++◌, length, map, set, get_or, slice_index_or, Vec, sym, ap, ◌∙◌, arith}
use Rattle.std.specs.declared.alloc.Global.{Global}
use Rattle.std.proofs.lemmas.Bool.{cases_lt, cases_eq}
use Rattle.std.proofs.lemmas.List.{map-set, map_push, length-map, get_or-set_same, get_or-set_other, get_or_append_left, get_or_push, get_or_past, get_or_default, length_push}
use Rattle.merge_laws.proofs.Copies.{mapped}
use Rattle.rules_tools.specs.Rows.{row}

abbrev states_of : Vec ℕ Global → List ℕ
states_of v = v.items

pub set_row : (rows : List (Vec ℕ Global)) (k : ℕ) (v : Vec ℕ Global) → k < length rows → row (set rows k v) k ≡ v.items
set_row rows k v lt =
    ap (λ xs. get_or xs k []) (map-set states_of rows k v)
    ∙ get_or-set_same (map states_of rows) k v.items [] (omega (arith, lt, length-map rows states_of))

pub set_other_row : (rows : List (Vec ℕ Global)) (k m : ℕ) (v : Vec ℕ Global) → m ≢ k → row (set rows k v) m ≡ row rows m
set_other_row rows k m v other =
    ap (λ xs. get_or xs m []) (map-set states_of rows k v)
    ∙ get_or-set_other (map states_of rows) k m v.items [] other

-- one empty row more
pub more_rows : (rows : List (Vec ℕ Global)) (v : Vec ℕ Global) → v.items ≡ [] → (m : ℕ) → row (rows ++ v ∷ []) m ≡ row rows m
more_rows rows v none m = ap (λ xs. get_or xs m []) (map_push states_of rows v) ∙ go (cases_lt m (length rows))
  where
    long : length (map states_of rows) ≡ length rows
    long = length-map rows states_of

    go : (m < length rows) ⊎ (length rows ≤ m) → get_or (map states_of rows ++ v.items ∷ []) m [] ≡ row rows m
    go (inl lt) = get_or_append_left (map states_of rows) (v.items ∷ []) [] m (omega (arith, lt, long))
    go (inr le) = last (cases_eq m (length rows))
      where
        past : row rows m ≡ []
        past = get_or_past (map states_of rows) m [] (omega (arith, le, long))

        last : (m ≡ length rows) ⊎ (m ≢ length rows) → get_or (map states_of rows ++ v.items ∷ []) m [] ≡ row rows m
        last (inl e) = get_or_push (map states_of rows) v.items [] m (long ∙ sym e) ∙ none ∙ sym past
        last (inr d) = get_or_past (map states_of rows ++ v.items ∷ []) m [] (omega (arith, le, d, long, length_all)) ∙ sym past
          where
            length_all : length (map states_of rows ++ v.items ∷ []) ≡ length (map states_of rows) + 1
            length_all = length_push (map states_of rows) v.items

-- the row that an index reads
pub row_is : (rows : List (Vec ℕ Global)) (k : ℕ) (v : Vec ℕ Global) → k < length rows → v ≡ slice_index_or rows k v → row rows k ≡ v.items
row_is rows k v lt e =
    sym (get_or_default (map states_of rows) k v.items [] (omega (arith, lt, length-map rows states_of)))
    ∙ mapped states_of rows k v ∙ ap states_of (sym e)
