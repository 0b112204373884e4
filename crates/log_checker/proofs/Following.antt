-- A log, followed change by change, and pieces of a walk, compared one by one.
use Rattle.std.proofs.Common.{◌≡◌, ℕ, suc, ◌+◌, ◌<◌, List, [], ◌∷◌, ◌++◌, length, take, drop, slice_index_or, refl, sym, ap, ◌∙◌, subst, arith, append_assoc}
use Rattle.std.proofs.lemmas.List.{take_more, take-append-drop, length-take-le, append_cancel_left}
use Rattle.std.proofs.Math.Seq.{drop-cons}
use Rattle.tile_model.specs.declared.Letter.{Letter}
use Rattle.tile_model.specs.Tessellations.{TileKind}
use Rattle.tile_model.specs.Relation.{Change, Changes, Lead}
use Rattle.tile_model.proofs.Relations.{lead_append}
use Rattle.log_model.specs.Logs.{IsAllowed, IsFirstRefused}
use Rattle.log_checker.specs.Footprints.{TypedLetter, letters}
use Rattle.log_checker.specs.Trails.{joined, walk_of}
use Rattle.log_checker.proofs.Pieces.{joined_push, joined_at, read_piece}
use Rattle.log_checker.proofs.LetterTypes.{letters_append}

module _ (kinds : List TileKind) (d : ℕ × ℕ) (log : List Change) (i : ℕ) (c : Change) (u v : List Letter) (h : i < length log) (is : c ≡ slice_index_or log i c) (leads : Lead kinds d (take i log) u v) where
  -- one change more
  pub lead_more : (w : List Letter) → Changes kinds d c v w → Lead kinds d (take (i + 1) log) u w
  lead_more w changes =
      let e : take (i + 1) log ≡ take i log ++ c ∷ [] = take_more log i c h ∙ ap (λ x. take i log ++ x ∷ []) (sym is) in
      subst (λ m. Lead kinds d m u w) (sym e) (lead_append kinds d (take i log) (c ∷ []) u v w leads (w, changes, refl))

  -- a change that is not allowed is the first
  pub refused_here : ¬ (IsAllowed kinds d c v) → IsFirstRefused kinds d u log (i + 1)
  refused_here fails = record {
    before = take i log;
    refused = c;
    behind = drop (suc i) log;
    split = sym (take-append-drop i log) ∙ ap (λ m. take i log ++ m) (drop-cons log i c h ∙ ap (λ x. x ∷ drop (suc i) log) (sym is));
    number = omega (arith, length-take-le i log (omega (arith, h)));
    walk = v;
    leads = leads;
    fails = fails;
  }

-- one piece more of a walk
pub walk_more : (ps : List (List TypedLetter)) (i : ℕ) (p : List TypedLetter) (w rest behind : List Letter) → i < length ps → p ≡ slice_index_or ps i p → w ≡ walk_of (take i ps) ++ rest → rest ≡ letters p ++ behind → w ≡ walk_of (take (i + 1) ps) ++ behind
walk_more ps i p w rest behind h is so_far goes =
    let e : take (i + 1) ps ≡ take i ps ++ p ∷ [] = take_more ps i p h ∙ ap (λ x. take i ps ++ x ∷ []) (sym is) in
    let whole : walk_of (take (i + 1) ps) ≡ walk_of (take i ps) ++ letters p = ap walk_of e ∙ ap letters (joined_push (take i ps) p) ∙ letters_append (joined (take i ps)) p in
    so_far ∙ ap (λ m. walk_of (take i ps) ++ m) goes ∙ sym (append_assoc (walk_of (take i ps)) (letters p) behind) ∙ ap (λ m. m ++ behind) (sym whole)

-- the walk of the pieces goes on with the letters of the next one
pub walk_goes_on : (ps : List (List TypedLetter)) (i : ℕ) (p : List TypedLetter) (w rest : List Letter) → i < length ps → p ≡ slice_index_or ps i p → w ≡ walk_of (take i ps) ++ rest → walk_of ps ≡ w → rest ≡ letters p ++ walk_of (drop (suc i) ps)
walk_goes_on ps i p w rest h is so_far whole =
    let piece = read_piece ps i p h is in
    let front = joined (take i ps) in
    let split : walk_of ps ≡ letters front ++ (letters p ++ walk_of (drop (suc i) ps)) =
    ap letters (joined_at ps i h ∙ ap (λ m. front ++ (m ++ joined (drop (suc i) ps))) (sym piece)) ∙ letters_append front (p ++ joined (drop (suc i) ps)) ∙ ap (λ m. letters front ++ m) (letters_append p (joined (drop (suc i) ps))) in
    append_cancel_left (letters front) rest (letters p ++ walk_of (drop (suc i) ps)) (sym so_far ∙ sym whole ∙ split)
