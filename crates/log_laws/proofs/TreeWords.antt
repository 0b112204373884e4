-- The words of positions: what a letter that follows them writes.
use Rattle.std.proofs.Common.{◌≡◌, ◌≢◌, ℕ, suc, ◌<◌, ◌⊎◌, inl, inr, List, [], ◌∷◌, ◌++◌, length, replicate, refl, sym, ap, ap₂, ◌∙◌, subst, arith, append_assoc, append-nil, length-append}
use Rattle.std.proofs.lemmas.Bool.{cases_eq}
use Rattle.tile_model.specs.declared.Letter.{Letter}
use Rattle.tile_model.specs.declared.Letter.TheVariants.{L, X}
use Rattle.tile_model.specs.Tessellations.{TileKind, valence, sides}
use Rattle.tile_model.specs.Validity.{IsValid}
use Rattle.tile_model.specs.Walks.{type_of}
use Rattle.tile_model.specs.Relation.{IsLoop, Change, deletes, Lead, there_and_back, full_turn}
use Rattle.tree_model.specs.declared.Rule.{Rule}
use Rattle.tree_model.specs.declared.Rule.TheVariants.{Parent, Child, Left, Right}
use Rattle.tree_model.specs.Automata.{TreeAutomaton, side_count}
use Rattle.tree_model.specs.Conditions.{IsAccepted}
use Rattle.tree_model.specs.Names.{state_of, word}
use Rattle.tree_model.specs.Positions.{Position, IsPosition, turn_left, rule_of, type_of_side, hop, mark, tree_across, mark_of_rule}
use Rattle.tree_model.specs.Places.{position_word}
use Rattle.tree_model.specs.Contours.{Tree}
use Rattle.tree_model.proofs.Sides.{next_last, next_inner}
use Rattle.tree_model.proofs.Positions.{make_position, IsDown, IsTreeAcross, hop_across}
use Rattle.tree_laws.proofs.TreePlane.{tree_land, valence_is}
use Rattle.tree_laws.proofs.Walking.{sides_of_type}
use Rattle.tree_laws.proofs.Words.{word_push, lefts_push, word_type}
use Rattle.log_laws.specs.Logs.{deleted, across_log, turn_log, tree_words}
use Rattle.log_laws.proofs.Written.{AreWritten}

module _ (kinds : List TileKind) (a : TreeAutomaton) (k : ℕ) where
  module _ (valid : IsValid kinds) (ok : IsAccepted kinds a) (known : k < length kinds) where
    abbrev There : Position → Type 0
    There = IsPosition kinds a k

    abbrev Leads : List Change → List Letter → List Letter → Type 0
    Leads = Lead kinds (k, 0)

    from : (changes : List Change) (u v w : List Letter) → u ≡ v → Leads changes v w → Leads changes u w
    from changes u v w e l = subst (λ z. Leads changes z w) (sym e) l

    to : (changes : List Change) (u v w : List Letter) → v ≡ w → Leads changes u v → Leads changes u w
    to changes u v w e l = subst (λ z. Leads changes u z) e l

    -- a loop behind a word is taken out
    out : (w loop : List Letter) (j : ℕ) → IsLoop kinds (type_of kinds (k, 0) w) j loop → Leads (deleted (length w) j ∷ []) (w ++ loop) w
    out w loop j is = (w ++ [], deletes w loop [] refl refl is (ap (λ z. w ++ z) (sym (append-nil loop))) refl, append-nil w)

    pub left_leads : (p : Position) → There p → Leads (turn_log kinds a k p) (position_word p ++ (L ∷ [])) (position_word (turn_left kinds a k p))
    left_leads p h = go (cases_eq (suc p.side) n)
      where
        n : ℕ
        n = side_count kinds a (state_of a k p.name)

        one : position_word p ++ (L ∷ []) ≡ word p.name ++ replicate (suc p.side) L
        one = append_assoc (word p.name) (replicate p.side L) (L ∷ []) ∙ ap (λ w. word p.name ++ w) (lefts_push p.side)

        none : (suc p.side ≢ n) → turn_log kinds a k p ≡ []
        none d = grind (arith, d)

        full : (suc p.side ≡ n) → turn_log kinds a k p ≡ deleted (length (word p.name)) 4 ∷ []
        full e = grind (arith, e)

        go : (suc p.side ≡ n) ⊎ (suc p.side ≢ n) → Leads (turn_log kinds a k p) (position_word p ++ (L ∷ [])) (position_word (turn_left kinds a k p))
        go (inr d) =
            let e = one ∙ ap (λ j. word p.name ++ replicate j L) (sym (next_inner n p.side (omega (arith, h.side, d)))) in
            subst (λ l. Leads l (position_word p ++ (L ∷ [])) (position_word (turn_left kinds a k p))) (sym (none d)) e
        go (inl f) =
            let z = make_position p.name 0 in
            let hz : There z = record { name = h.name; side = omega (arith, h.side) } in
            let t : type_of kinds (k, 0) (word p.name) ≡ type_of_side kinds a k z = ap (type_of kinds (k, 0)) (sym (append-nil (word p.name))) ∙ word_type kinds a k valid ok known z hz in
            let loop : IsLoop kinds (type_of kinds (k, 0) (word p.name)) 4 (replicate (sides kinds (type_of_side kinds a k z)) L) = subst (λ d. IsLoop kinds d 4 (replicate (sides kinds (type_of_side kinds a k z)) L)) (sym t) full_turn in
            let s : replicate (suc p.side) L ≡ replicate (sides kinds (type_of_side kinds a k z)) L = ap (λ j. replicate j L) (f ∙ sides_of_type kinds a k z) in
            let g = one ∙ ap (λ w. word p.name ++ w) s in
            let w : word p.name ≡ position_word (turn_left kinds a k p) = sym (append-nil (word p.name)) ∙ ap (λ j. word p.name ++ replicate j L) (sym (next_last n p.side f)) in
            let o = out (word p.name) (replicate (sides kinds (type_of_side kinds a k z)) L) 4 loop in
            let l = to (deleted (length (word p.name)) 4 ∷ []) (position_word p ++ (L ∷ [])) (word p.name) (position_word (turn_left kinds a k p)) w (from (deleted (length (word p.name)) 4 ∷ []) (position_word p ++ (L ∷ [])) (word p.name ++ replicate (sides kinds (type_of_side kinds a k z)) L) (word p.name) g o) in
            subst (λ c. Leads c (position_word p ++ (L ∷ [])) (position_word (turn_left kinds a k p))) (sym (full f)) l

    down_word : (p q : Position) → IsDown kinds a k p q → position_word p ++ (X ∷ []) ≡ position_word q
    down_word p q d =
        let e : position_word q ≡ word (p.name ++ p.side ∷ []) ++ [] = ap₂ (λ m j. word m ++ replicate j L) d.name d.side in
        append_assoc (word p.name) (replicate p.side L) (X ∷ []) ∙ sym (word_push p.name p.side) ∙ sym (append-nil (word (p.name ++ p.side ∷ []))) ∙ sym e

    pub hop_leads : (p : Position) → There p → mark kinds a k p ≡ Tree → Leads (across_log (rule_of kinds a k p) (hop kinds a k p)) (position_word p ++ (X ∷ [])) (position_word (hop kinds a k p))
    hop_leads p h t = go (rule_of kinds a k p) refl (hop_across kinds a k valid ok known p h t)
      where
        q : Position
        q = hop kinds a k p

        -- a Child side has the child across, the side of the parent has the parent
        go : (r : Rule) → rule_of kinds a k p ≡ r → IsTreeAcross kinds a k p q → Leads (across_log r q) (position_word p ++ (X ∷ [])) (position_word q)
        go (Child c) e (inl d) = down_word p q d
        go (Child c) e (inr d) =
            let n : q.name ≡ p.name ++ p.side ∷ [] = ap (λ r. (tree_across r p).name) e in
            let l : length p.name ≡ suc (length q.name) = ap length d.name ∙ length-append q.name (q.side ∷ []) ∙ omega arith in
            let m : length q.name ≡ suc (length p.name) = ap length n ∙ length-append p.name (p.side ∷ []) ∙ omega arith in
            absurd (omega (arith, l, m))
        go Parent e (inl d) = absurd (cc (d.child, e))
        go Parent e (inr d) =
            let w = down_word q p d in
            let s : position_word p ++ (X ∷ []) ≡ position_word q ++ (X ∷ X ∷ []) = ap (λ z. z ++ (X ∷ [])) (sym w) ∙ append_assoc (position_word q) (X ∷ []) (X ∷ []) in
            from (deleted (length (position_word q)) 1 ∷ []) (position_word p ++ (X ∷ [])) (position_word q ++ (X ∷ X ∷ [])) (position_word q) s (out (position_word q) (X ∷ X ∷ []) 1 there_and_back)
        go Left e i = let m = ap mark_of_rule e in absurd (cc)
        go Right e i = let m = ap mark_of_rule e in absurd (cc)

    pub written : AreWritten Position There (tree_land kinds a k) kinds (k, 0) (tree_words kinds a k)
    written = record {
      of_left = left_leads;
      of_hop = hop_leads;
      valence_is = λ p h. ap (valence kinds) (word_type kinds a k valid ok known p h) ∙ sym (valence_is kinds a k valid ok known p h);
    }
