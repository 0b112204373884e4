-- The log of a crossing: the list of changes that the walk along the contour writes as it goes.
use Rattle.std.proofs.Common.{◌≡◌, ℕ, zero, suc, ◌+◌, List, [], ◌∷◌, ◌++◌, length, refl, sym, ap, ◌∙◌, subst, arith, append_assoc}
use Rattle.tile_model.specs.declared.Letter.{Letter}
use Rattle.tile_model.specs.declared.Letter.TheVariants.{L, X}
use Rattle.tile_model.specs.Tessellations.{TileKind, valence}
use Rattle.tile_model.specs.Walks.{type_of, times}
use Rattle.tile_model.specs.Relation.{IsLoop, Change, Changes, inserts, deletes, Lead, there_and_back, round_corner}
use Rattle.tile_model.proofs.Relations.{lead_append, lead_behind}
use Rattle.tree_model.specs.Contours.{Tree, Opens, Closes, FreeWay, stay, tree, nested, AreMatched}
use Rattle.tree_laws.specs.Plane.{Land, IsPlane}
use Rattle.tree_laws.proofs.Track.{kept, there_at}
use Rattle.log_laws.specs.Logs.{Words, inserted, deleted, way_log, match_log}
use Rattle.tree_laws.proofs.Ends.{there_last, before_closes, place_next}

-- n times LX
abbrev pub rounds : ℕ → List Letter
rounds n = times n (L ∷ X ∷ [])

rounds_end : (n : ℕ) → rounds (suc n) ≡ rounds n ++ (L ∷ X ∷ [])
rounds_end zero = refl
rounds_end (suc n) = ap (λ w. L ∷ X ∷ w) (rounds_end n)

-- What a turn and the crossing of a side of the tree write leads from the word with the letter to the word behind it.
pub record AreWritten (P : Type 0) (There : P → Type 0) (land : Land P) (kinds : List TileKind) (d : ℕ × ℕ) (words : Words P) : Type 0 where
  pub of_left : (p : P) → There p → Lead kinds d (words.turn p) (words.word p ++ (L ∷ [])) (words.word (land.left p))
  pub of_hop : (p : P) → There p → land.mark p ≡ Tree → Lead kinds d (words.across p) (words.word p ++ (X ∷ [])) (words.word (land.hop p))
  pub valence_is : (p : P) → There p → valence kinds (type_of kinds d (words.word p)) ≡ suc (land.last (land.corner p))

-- a loop put in behind the first walk, or taken out from there, and then the rest
module _ (kinds : List TileKind) (d : ℕ × ℕ) where
  puts : (w rest loop : List Letter) (j : ℕ) → IsLoop kinds (type_of kinds d w) j loop → Changes kinds d (inserted (length w) j) (w ++ rest) (w ++ (loop ++ rest))
  puts w rest loop j is = inserts w loop rest refl refl is refl refl

  takes : (w rest loop : List Letter) (j : ℕ) → IsLoop kinds (type_of kinds d w) j loop → Changes kinds d (deleted (length w) j) (w ++ (loop ++ rest)) (w ++ rest)
  takes w rest loop j is = deletes w loop rest refl refl is refl refl

module _ (P : Type 0) (There : P → Type 0) (land : Land P) (plane : IsPlane P There land) (kinds : List TileKind) (d : ℕ × ℕ) (words : Words P) (written : AreWritten P There land kinds d words) where
  abbrev W : P → P → Type 0
  W = FreeWay P land.left land.hop land.mark

  abbrev M : P → P → Type 0
  M = AreMatched P land.left land.hop land.mark

  abbrev Leads : List Change → List Letter → List Letter → Type 0
  Leads = Lead kinds d

  abbrev log : {x w : P} → W x w → List Change
  log = way_log P land.left land.hop land.mark words

  pub moves : {x w : P} → W x w → ℕ
  moves (stay e) = 0
  moves (tree t r) = suc (moves r)
  moves (nested v o a k b) = suc (moves b)

  moves_place : {x w : P} → There x → (a : W x w) → land.place w ≡ land.place x + moves a
  unfolding moves
  moves_place g (stay e) = omega (arith, ap land.place e)
  moves_place {x} {w} g (tree t r) = omega (arith, plane.tree_place x g t, moves_place (plane.there_hop (land.left x) (plane.there_left x g) t) r)
  moves_place {x} {w} g (nested v o a k b) =
      let gl = plane.there_left x g in
      let gv = there_at P There land plane gl a in
      let m : M (land.left x) (land.left v) = record { opens = o; closes = k; last = v; way = a; turned = refl } in
      omega (arith, place_next P There land plane g m, moves_place (plane.there_left v gv) b)

  on : (first second : List Change) (u v w : List Letter) → Leads first u v → Leads second v w → Leads (first ++ second) u w
  on first second u v w r s = lead_append kinds d first second u v w r s

  from : (changes : List Change) (u v w : List Letter) → u ≡ v → Leads changes v w → Leads changes u w
  from changes u v w e l = subst (λ z. Leads changes z w) (sym e) l

  -- the letter L, and then the rest
  turned : (p : P) (z : List Letter) → There p → Leads (words.turn p) (words.word p ++ (L ∷ z)) (words.word (land.left p) ++ z)
  turned p z g = from (words.turn p) (words.word p ++ (L ∷ z)) ((words.word p ++ (L ∷ [])) ++ z) (words.word (land.left p) ++ z) (sym (append_assoc (words.word p) (L ∷ []) z)) (lead_behind kinds d (words.turn p) (words.word p ++ (L ∷ [])) (words.word (land.left p)) z (written.of_left p g))

  hopped : (p : P) (z : List Letter) → There p → land.mark p ≡ Tree → Leads (words.across p) (words.word p ++ (X ∷ z)) (words.word (land.hop p) ++ z)
  hopped p z g t = from (words.across p) (words.word p ++ (X ∷ z)) ((words.word p ++ (X ∷ [])) ++ z) (words.word (land.hop p) ++ z) (sym (append_assoc (words.word p) (X ∷ []) z)) (lead_behind kinds d (words.across p) (words.word p ++ (X ∷ [])) (words.word (land.hop p)) z (written.of_hop p g t))

  -- what follows the way inside a corner: the turn to the closing side, and XX taken out
  abbrev shut : P → List Change → List Change
  shut v rest = words.turn v ++ (deleted (length (words.word (land.left v))) 1 ∷ rest)

  -- from a way inside a corner to the crossing of its key edge, and then the rest
  closing : {x v : P} (z w : List Letter) → There x → There v → land.mark x ≡ Opens → land.mark (land.left v) ≡ Closes → (a : W x v) → ((s : List Letter) → Leads (log a) (words.word x ++ (rounds (moves a) ++ s)) (words.word v ++ s)) → (rest : List Change) → Leads rest (words.word (land.left v) ++ z) w → Leads (inserted (length (words.word x)) 5 ∷ (log a ++ shut v rest)) (words.word x ++ (X ∷ z)) w
  closing {x} {v} z w gx gv o c a r rest after =
      let k = kept P There land plane gx a in
      let n : moves a ≡ land.last (land.corner x) = omega (arith, moves_place gx a, plane.opens_first x gx o, plane.closes_last v gv c ∙ ap land.last k.ends) in
      let u = valence kinds (type_of kinds d (words.word x)) in
      let y = words.word (land.left v) in
      let e : rounds u ≡ rounds (moves a) ++ (L ∷ X ∷ []) = ap rounds (written.valence_is x gx ∙ ap suc (sym n)) ∙ rounds_end (moves a) in
      let shape : words.word x ++ (rounds u ++ (X ∷ z)) ≡ words.word x ++ (rounds (moves a) ++ (L ∷ X ∷ X ∷ z)) = ap (λ m. words.word x ++ (m ++ (X ∷ z))) e ∙ ap (λ m. words.word x ++ m) (append_assoc (rounds (moves a)) (L ∷ X ∷ []) (X ∷ z)) in
      let out : Leads (deleted (length y) 1 ∷ rest) (y ++ (X ∷ X ∷ z)) w = (y ++ z, takes kinds d y z (X ∷ X ∷ []) 1 there_and_back, after) in
      let back = on (words.turn v) (deleted (length y) 1 ∷ rest) (words.word v ++ (L ∷ X ∷ X ∷ z)) (y ++ (X ∷ X ∷ z)) w (turned v (X ∷ X ∷ z) gv) out in
      let whole = on (log a) (shut v rest) (words.word x ++ (rounds (moves a) ++ (L ∷ X ∷ X ∷ z))) (words.word v ++ (L ∷ X ∷ X ∷ z)) w (r (L ∷ X ∷ X ∷ z)) back in
      (words.word x ++ (rounds u ++ (X ∷ z)), puts kinds d (words.word x) (X ∷ z) (rounds u) 5 round_corner, from (log a ++ shut v rest) (words.word x ++ (rounds u ++ (X ∷ z))) (words.word x ++ (rounds (moves a) ++ (L ∷ X ∷ X ∷ z))) w shape whole)

  -- what is written along a free way leads from its start and as many LX to its end
  pub way_leads : {x w : P} → There x → (a : W x w) (s : List Letter) → Leads (log a) (words.word x ++ (rounds (moves a) ++ s)) (words.word w ++ s)
  unfolding moves
  way_leads {x} {w} g (stay e) s = ap (λ p. words.word p ++ s) e
  way_leads {x} {w} g (tree t r) s =
      let gl = plane.there_left x g in
      let q = land.hop (land.left x) in
      let z = rounds (moves r) ++ s in
      let ih = way_leads (plane.there_hop (land.left x) gl t) r s in
      let over = on (words.across (land.left x)) (log r) (words.word (land.left x) ++ (X ∷ z)) (words.word q ++ z) (words.word w ++ s) (hopped (land.left x) z gl t) ih in
      on (words.turn x) (words.across (land.left x) ++ log r) (words.word x ++ (L ∷ X ∷ z)) (words.word (land.left x) ++ (X ∷ z)) (words.word w ++ s) (turned x (X ∷ z) g) over
  way_leads {x} {w} g (nested v o a k b) s =
      let gl = plane.there_left x g in
      let gv = there_at P There land plane gl a in
      let z = rounds (moves b) ++ s in
      on (words.turn x) (inserted (length (words.word (land.left x))) 5 ∷ (log a ++ shut v (log b))) (words.word x ++ (L ∷ X ∷ z)) (words.word (land.left x) ++ (X ∷ z)) (words.word w ++ s) (turned x (X ∷ z) g)
      (closing z (words.word w ++ s) gl gv o k a (way_leads gl a) (log b) (way_leads (plane.there_left v gv) b s))

  -- what is written at a match leads from the opening side and X to the closing side
  pub match_leads : {x y : P} → There x → (m : M x y) (s : List Letter) → Leads (match_log P land.left land.hop land.mark words m) (words.word x ++ (X ∷ s)) (words.word y ++ s)
  match_leads {x} {y} g m s =
      let gv = there_last P There land plane g m in
      let c = closing s (words.word (land.left m.last) ++ s) g gv m.opens (before_closes P There land plane m) m.way (way_leads g m.way) [] refl in
      subst (λ p. Leads (match_log P land.left land.hop land.mark words m) (words.word x ++ (X ∷ s)) (words.word p ++ s)) m.turned c
