-- What the other letters write: a turn to the right, and the crossing of a Right side.
use Rattle.std.proofs.Common.{◌≡◌, ℕ, ◌<◌, List, [], ◌∷◌, ◌++◌, length, refl, subst, append_assoc}
use Rattle.tile_model.specs.declared.Letter.{Letter}
use Rattle.tile_model.specs.declared.Letter.TheVariants.{L, R, X}
use Rattle.tile_model.specs.Tessellations.{TileKind}
use Rattle.tile_model.specs.Validity.{IsValid}
use Rattle.tile_model.specs.Walks.{type_of}
use Rattle.tile_model.specs.Relation.{IsLoop, Change, deletes, Lead, there_and_back, left_and_right}
use Rattle.tile_model.proofs.Relations.{all_reverted, lead_append, lead_back, lead_behind}
use Rattle.tree_model.specs.Automata.{TreeAutomaton}
use Rattle.tree_model.specs.Conditions.{IsAccepted}
use Rattle.tree_model.specs.Contours.{Tree}
use Rattle.tree_model.specs.Positions.{Position, IsPosition, turn_left, turn_right, rule_of, hop, mark}
use Rattle.tree_model.specs.Places.{position_word}
use Rattle.tree_model.proofs.Positions.{left_right, right_position}
use Rattle.log_laws.specs.Logs.{deleted, across_log, turn_log, right_log}
use Rattle.log_laws.proofs.TreeWords.{left_leads, hop_leads}

module _ (kinds : List TileKind) (d : ℕ × ℕ) where
  -- a loop behind a walk is deleted, whatever follows
  pub delete_behind : (w loop rest : List Letter) (j : ℕ) → IsLoop kinds (type_of kinds d w) j loop → Lead kinds d (deleted (length w) j ∷ []) (w ++ (loop ++ rest)) (w ++ rest)
  delete_behind w loop rest j is = (w ++ rest, deletes w loop rest refl refl is refl refl, refl)

  -- what leads from a word and a letter leads on where more letters follow
  pub behind_letter : (changes : List Change) (u v : List Letter) (x : Letter) (rest : List Letter) → Lead kinds d changes (u ++ (x ∷ [])) v → Lead kinds d changes (u ++ (x ∷ rest)) (v ++ rest)
  behind_letter changes u v x rest l = subst (λ w. Lead kinds d changes w (v ++ rest)) (append_assoc u (x ∷ []) rest) (lead_behind kinds d changes (u ++ (x ∷ [])) v rest l)

  -- the log of a crossing, taken back, leads across the other way
  pub back_leads : (changes : List Change) (x y rest : List Letter) → ((s : List Letter) → Lead kinds d changes (x ++ (X ∷ s)) (y ++ s)) → Lead kinds d (all_reverted changes ++ (deleted (length x) 1 ∷ [])) (y ++ (X ∷ rest)) (x ++ rest)
  back_leads changes x y rest h =
      let b = lead_back kinds d changes (x ++ (X ∷ X ∷ rest)) (y ++ (X ∷ rest)) (h (X ∷ rest)) in
      lead_append kinds d (all_reverted changes) (deleted (length x) 1 ∷ []) (y ++ (X ∷ rest)) (x ++ (X ∷ X ∷ rest)) (x ++ rest) b (delete_behind x (X ∷ X ∷ []) rest 1 there_and_back)

module _ (kinds : List TileKind) (a : TreeAutomaton) (k : ℕ) (valid : IsValid kinds) (ok : IsAccepted kinds a) (known : k < length kinds) where
  abbrev There : Position → Type 0
  There = IsPosition kinds a k

  abbrev Leads : List Change → List Letter → List Letter → Type 0
  Leads = Lead kinds (k, 0)

  pub turns_left : (p : Position) (rest : List Letter) → There p → Leads (turn_log kinds a k p) (position_word p ++ (L ∷ rest)) (position_word (turn_left kinds a k p) ++ rest)
  turns_left p rest h = behind_letter kinds (k, 0) (turn_log kinds a k p) (position_word p) (position_word (turn_left kinds a k p)) L rest (left_leads kinds a k valid ok known p h)

  pub hops : (p : Position) (rest : List Letter) → There p → mark kinds a k p ≡ Tree → Leads (across_log (rule_of kinds a k p) (hop kinds a k p)) (position_word p ++ (X ∷ rest)) (position_word (hop kinds a k p) ++ rest)
  hops p rest h t = behind_letter kinds (k, 0) (across_log (rule_of kinds a k p) (hop kinds a k p)) (position_word p) (position_word (hop kinds a k p)) X rest (hop_leads kinds a k valid ok known p h t)

  -- the turn that leads back to the left is taken back, and LR goes
  pub turns_right : (p : Position) (rest : List Letter) → There p → Leads (right_log kinds a k p) (position_word p ++ (R ∷ rest)) (position_word (turn_right kinds a k p) ++ rest)
  turns_right p rest h =
      let q = turn_right kinds a k p in
      let t = turn_log kinds a k q in
      let w = position_word q in
      let l = left_leads kinds a k valid ok known q (right_position kinds a k p h) in
      let m = subst (λ z. Leads t (w ++ (L ∷ [])) (position_word z)) (left_right kinds a k p h) l in
      let b = lead_back kinds (k, 0) t (w ++ (L ∷ [])) (position_word p) m in
      let c = lead_behind kinds (k, 0) (all_reverted t) (position_word p) (w ++ (L ∷ [])) (R ∷ rest) b in
      let e = subst (λ z. Leads (all_reverted t) (position_word p ++ (R ∷ rest)) z) (append_assoc w (L ∷ []) (R ∷ rest)) c in
      lead_append kinds (k, 0) (all_reverted t) (deleted (length w) 2 ∷ []) (position_word p ++ (R ∷ rest)) (w ++ (L ∷ R ∷ rest)) (w ++ rest) e (delete_behind kinds (k, 0) w (L ∷ R ∷ []) rest 2 left_and_right)
