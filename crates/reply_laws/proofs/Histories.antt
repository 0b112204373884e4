-- Replies depend on a history by its walkers and their walks alone.
-- And histories whose replies are due, with one event more.
use Rattle.std.proofs.Common.{◌≡◌, ℕ, ◌==◌, ◌⊎◌, inl, inr, List, [], ◌∷◌, ◌++◌, refl, sym, ap₂, subst, append_assoc, ne_eqb}
use Rattle.std.proofs.lemmas.Bool.{cond-false}
use Rattle.tile_model.specs.declared.Letter.{Letter}
use Rattle.tile_model.specs.Tessellations.{TileKind}
use Rattle.tile_model.specs.Walks.{type_of}
use Rattle.tree_model.specs.Positions.{Position}
use Rattle.reply_model.specs.declared.Command.{Command}
use Rattle.reply_model.specs.declared.Command.TheVariants.{New, Go, At, Path, Get}
use Rattle.reply_model.specs.declared.Reply.{Reply}
use Rattle.reply_model.specs.declared.Reply.TheVariants.{At as AtPlace, Path as Along}
use Rattle.reply_model.specs.Histories.{History, AreDue, Exists, letters_for, walk_of}
use Rattle.reply_model.specs.Readings.{Reading}
use Rattle.reply_model.specs.Ways.{end_type, way_between, way_along_name}
use Rattle.reply_model.specs.Replies.{PassesFar, TreePathPassesFar, HasPlaceFrom, IsReply}
use Rattle.reply_model.specs.Replies.{new_taken, new_made, go_nobody, go_deep, go_gone}
use Rattle.reply_model.specs.Replies.{at_nobody, at_place, same_nobody, same_tile, other_tile}
use Rattle.reply_model.specs.Replies.{level_nobody, level_told, dist_nobody, dist_deep, dist_told}
use Rattle.reply_model.specs.Replies.{path_nobody, path_deep, path_told}
use Rattle.reply_model.specs.Replies.{put_nobody, put_long, put_written}
use Rattle.reply_model.specs.Replies.{get_nobody, get_text, get_nothing}
use Rattle.reply_model.specs.Replies.{ring_far, ring_too_big, ring_too_many, ring_told}
use Rattle.reply_model.specs.Replies.{count_far, count_too_big, count_told}
use Rattle.reply_laws.proofs.Events.{Event, exists_front, push_cases}

nobody : {A B C D : Type 0} → (B → A) → (D → C) → (A → ⊥) ⊎ (C → ⊥) → (B → ⊥) ⊎ (D → ⊥)
nobody f g (inl n) = inl (λ b. n (f b))
nobody f g (inr n) = inr (λ d. n (g d))

-- no reply stands in the empty history
pub none_due : (Due : History → Command → Reply → Type 0) → AreDue Due []
none_due Due before rest c x e = absurd (nothing before rest (c, x) e)
  where
    nothing : (l rest : History) (f : Event) → [] ≡ l ++ f ∷ rest → ⊥
    nothing [] rest f q = absurd (cc)
    nothing (b ∷ l) rest f q = absurd (cc)

-- one event more
pub due_push :
    (Due : History → Command → Reply → Type 0) (h : History) (c : Command) (x : Reply) →
    AreDue Due h → Due h c x → AreDue Due (h ++ (c, x) ∷ [])
due_push Due h c x due d before rest b y e = place (push_cases h (c, x) before (b, y) rest e)
  where
    place :
        ((h ≡ before) × (◌≡◌ {A = Event} (c, x) (b, y))) ⊎
        ((more : History) × (h ≡ before ++ (b, y) ∷ more)) →
        Due before b y
    place (inl (p, q)) = subst (λ (e : Event). Due before e.0 e.1) q (subst (λ g. Due g c x) p d)
    place (inr (more, p)) = due before more b y p

-- Two histories have the same walkers, and these have the same walks.
pub record HaveSameWalks (h g : History) : Type 0 where
  pub there : (w : ℕ) → Exists h w → Exists g w
  pub back : (w : ℕ) → Exists g w → Exists h w
  pub walks : (w : ℕ) → walk_of h w ≡ walk_of g w

abbrev pub AsksNoText : Command → Type 0
AsksNoText (Get w) = ⊥
AsksNoText _ = Unit {0}

module _ (kinds : List TileKind) (k : ℕ) (r : Reading) where
  abbrev Due : History → Command → Reply → Type 0
  Due = IsReply kinds k r

  deep_alike :
      (h g : History) (w : ℕ) (u : List Letter) → walk_of h w ≡ walk_of g w →
      PassesFar r [] (walk_of h w) u → PassesFar r [] (walk_of g w) u
  deep_alike h g w u e d = subst (λ l. PassesFar r [] l u) e d

  together_alike :
      (h g : History) (w v : ℕ) → walk_of h w ≡ walk_of g w → walk_of h v ≡ walk_of g v →
      r.AreTogether (walk_of h w) (walk_of h v) → r.AreTogether (walk_of g w) (walk_of g v)
  together_alike h g w v e f t =
      subst (λ l. r.AreTogether l (walk_of g v)) e (subst (λ l. r.AreTogether (walk_of h w) l) f t)

  place_alike :
      (h g : History) (w : ℕ) (p : Position) → walk_of h w ≡ walk_of g w → Exists g w →
      r.HasPlace k (walk_of h w) p →
      Due g (At w) (AtPlace p.name p.side (type_of kinds (k, 0) (walk_of h w)).0)
  place_alike h g w p same e l =
      subst (λ u. Due g (At w) (AtPlace p.name p.side (type_of kinds (k, 0) u).0)) (sym same)
      (at_place w p e (subst (λ u. r.HasPlace k u p) same l))

  apart_alike :
      (h g : History) (w v n : ℕ) → walk_of h w ≡ walk_of g w → walk_of h v ≡ walk_of g v →
      r.AreApart (walk_of h w) (walk_of h v) n → r.AreApart (walk_of g w) (walk_of g v) n
  apart_alike h g w v n e f t =
      subst (λ l. r.AreApart l (walk_of g v) n) e (subst (λ l. r.AreApart (walk_of h w) l n) f t)

  tree_path_alike :
      (h g : History) (w v : ℕ) → walk_of h w ≡ walk_of g w → walk_of h v ≡ walk_of g v →
      TreePathPassesFar r k (walk_of h w) (walk_of h v) →
      TreePathPassesFar r k (walk_of g w) (walk_of g v)
  tree_path_alike h g w v e f t =
      subst (λ l. TreePathPassesFar r k l (walk_of g v)) e
      (subst (λ l. TreePathPassesFar r k (walk_of h w) l) f t)

  way_alike :
      (h g : History) (w v : ℕ) (p : Position) → HaveSameWalks h g → Exists h w → Exists h v →
      (TreePathPassesFar r k (walk_of h w) (walk_of h v) → ⊥) → HasPlaceFrom kinds k r h w v p →
      Due g (Path w v) (Along (way_along_name (end_type kinds k (walk_of h w)).1 p.name))
  way_alike h g w v p s e d n l =
      let first = subst (λ u. r.HasPlace (end_type kinds k (walk_of h w)).0
      (way_between kinds k (walk_of h w) u) p) (s.walks v) l in
      let both = subst (λ u. r.HasPlace (end_type kinds k u).0
      (way_between kinds k u (walk_of g v)) p) (s.walks w) first in
      subst (λ u. Due g (Path w v) (Along (way_along_name (end_type kinds k u).1 p.name)))
      (sym (s.walks w)) (path_told w v p (s.there w e) (s.there v d)
      (λ f. n (tree_path_alike g h w v (sym (s.walks w)) (sym (s.walks v)) f)) both)

  -- what is asked of walkers and tiles alone, not of texts
  pub due_alike :
      (h g : History) → HaveSameWalks h g → {c : Command} {x : Reply} → AsksNoText c → Due h c x →
      Due g c x
  due_alike h g s _ (new_taken w e) = new_taken w (s.there w e)
  due_alike h g s _ (new_made w n) = new_made w (λ e. n (s.back w e))
  due_alike h g s _ (go_nobody w u n) = go_nobody w u (λ e. n (s.back w e))
  due_alike h g s _ (go_deep w u e d) = go_deep w u (s.there w e) (deep_alike h g w u (s.walks w) d)
  due_alike h g s _ (go_gone w u e n) =
      go_gone w u (s.there w e) (λ d. n (deep_alike g h w u (sym (s.walks w)) d))
  due_alike h g s _ (at_nobody w n) = at_nobody w (λ e. n (s.back w e))
  due_alike h g s _ (at_place w p e l) = place_alike h g w p (s.walks w) (s.there w e) l
  due_alike h g s _ (same_nobody w v n) = same_nobody w v (nobody (s.back w) (s.back v) n)
  due_alike h g s _ (same_tile w v e d t) =
      same_tile w v (s.there w e) (s.there v d) (together_alike h g w v (s.walks w) (s.walks v) t)
  due_alike h g s _ (other_tile w v e d n) =
      other_tile w v (s.there w e) (s.there v d)
      (λ t. n (together_alike g h w v (sym (s.walks w)) (sym (s.walks v)) t))
  due_alike h g s _ (level_nobody w n) = level_nobody w (λ e. n (s.back w e))
  due_alike h g s _ (level_told w n e a) =
      level_told w n (s.there w e) (subst (λ l. r.AreApart [] l n) (s.walks w) a)
  due_alike h g s _ (dist_nobody w v n) = dist_nobody w v (nobody (s.back w) (s.back v) n)
  due_alike h g s _ (dist_deep w v e d f) =
      dist_deep w v (s.there w e) (s.there v d) (tree_path_alike h g w v (s.walks w) (s.walks v) f)
  due_alike h g s _ (dist_told w v n e d m a) =
      dist_told w v n (s.there w e) (s.there v d)
      (λ f. m (tree_path_alike g h w v (sym (s.walks w)) (sym (s.walks v)) f))
      (apart_alike h g w v n (s.walks w) (s.walks v) a)
  due_alike h g s _ (path_nobody w v n) = path_nobody w v (nobody (s.back w) (s.back v) n)
  due_alike h g s _ (path_deep w v e d f) =
      path_deep w v (s.there w e) (s.there v d) (tree_path_alike h g w v (s.walks w) (s.walks v) f)
  due_alike h g s _ (path_told w v p e d m l) = way_alike h g w v p s e d m l
  due_alike h g s _ (put_nobody w t n) = put_nobody w t (λ e. n (s.back w e))
  due_alike h g s _ (put_long w t e l) = put_long w t (s.there w e) l
  due_alike h g s _ (put_written w t e l) = put_written w t (s.there w e) l
  due_alike h g s asks (get_nobody w n) = absurd asks
  due_alike h g s asks (get_text w t e l) = absurd asks
  due_alike h g s asks (get_nothing w e b) = absurd asks
  due_alike h g s _ (ring_far d l) = ring_far d l
  due_alike h g s _ (ring_too_big d q l b) = ring_too_big d q l b
  due_alike h g s _ (ring_too_many d n l c m) = ring_too_many d n l c m
  due_alike h g s _ (ring_told d n l c m) = ring_told d n l c m
  due_alike h g s _ (count_far d l) = count_far d l
  due_alike h g s _ (count_too_big d q l b) = count_too_big d q l b
  due_alike h g s _ (count_told d n l c) = count_told d n l c

  -- a reply that is due adds no letters to the walk of a walker that does not exist
  go_letters :
      (h : History) (w v : ℕ) (u : List Letter) → (Exists h w → ⊥) → {x : Reply} →
      Due h (Go v u) x → letters_for w (Go v u) x ≡ []
  go_letters h w v u n (go_nobody _ _ m) = refl
  go_letters h w v u n (go_deep _ _ e d) = refl
  go_letters h w v u n (go_gone _ _ e d) =
      cond-false (v == w) u [] (ne_eqb v w (λ i. n (subst (Exists h) i e)))

  no_letters :
      (h : History) (w : ℕ) → (Exists h w → ⊥) → (c : Command) (x : Reply) → Due h c x →
      letters_for w c x ≡ []
  no_letters h w n (Go v u) x d = go_letters h w v u n d
  no_letters h w n _ x d = refl

  unborn_behind :
      (before rest : History) (w : ℕ) → AreDue Due (before ++ rest) →
      (Exists (before ++ rest) w → ⊥) → walk_of rest w ≡ []
  unborn_behind before [] w due n = refl
  unborn_behind before (e ∷ rest) w due n =
      let first : letters_for w e.0 e.1 ≡ [] =
      no_letters before w (λ x. n (exists_front before (e ∷ rest) w x)) e.0 e.1
      (due before rest e.0 e.1 refl) in
      let split : before ++ e ∷ rest ≡ (before ++ e ∷ []) ++ rest =
      sym (append_assoc before (e ∷ []) rest) in
      let more : walk_of rest w ≡ [] =
      unborn_behind (before ++ e ∷ []) rest w (subst (AreDue Due) split due)
      (subst (λ h. Exists h w → ⊥) split n) in
      ap₂ (λ u v. u ++ v) first more

  -- a walker that does not exist has gone nowhere
  pub unborn : (h : History) (w : ℕ) → AreDue Due h → (Exists h w → ⊥) → walk_of h w ≡ []
  unborn h w due n = unborn_behind [] h w due n
