-- Where a log leads: to one walk, or nowhere where a change is refused.
use Rattle.std.proofs.Common.{◌≡◌, ℕ, ◌<◌, suc, List, [], ◌∷◌, ◌++◌, length, refl, sym, ap, ◌∙◌, subst, arith, length-append, append_assoc}
use Rattle.std.proofs.lemmas.Bool.{cases_lt}
use Rattle.tile_model.specs.declared.Letter.{Letter}
use Rattle.tile_model.specs.Tessellations.{TileKind}
use Rattle.tile_model.specs.Relation.{Change, Changes, Lead}
use Rattle.log_model.specs.Logs.{IsAllowed, IsFirstRefused}
use Rattle.log_model.proofs.Changes.{one_change, lead_split}

-- of two lists that are one list, cut at two entries, the longer begins with the shorter and its entry
cut_before : (a b c e : List Change) (x y : Change) → a ++ (x ∷ c) ≡ b ++ (y ∷ e) → length a < length b → (more : List Change) × (b ≡ a ++ (x ∷ more))
cut_before [] [] c e x y same less = absurd (omega (arith, less))
cut_before [] (z ∷ b) c e x y same less = (b, ap (λ m. m ∷ b) (cc (same)))
cut_before (z ∷ a) [] c e x y same less = absurd (omega (arith, less))
cut_before (z ∷ a) (v ∷ b) c e x y same less =
    let f = cut_before a b c e x y (cc (same)) (omega (arith, less)) in
    (f.0, ap (λ m. m ∷ b) (cc (same)) ∙ ap (λ m. z ∷ m) f.1)

module _ (kinds : List TileKind) (d : ℕ × ℕ) where
  pub lead_one : (log : List Change) (u v w : List Letter) → Lead kinds d log u v → Lead kinds d log u w → v ≡ w
  lead_one [] u v w r s = sym r ∙ s
  lead_one (c ∷ log) u v w r s = lead_one log r.0 v w r.2 (subst (λ m. Lead kinds d log m w) (sym (one_change kinds d r.1 s.1)) s.2)

  -- the walk in which a change is refused is the one that the changes before it lead to
  refused_at : {u : List Letter} {log : List Change} {n : ℕ} (f : IsFirstRefused kinds d u log n) (more : List Change) (w : List Letter) → ¬ (Lead kinds d (f.before ++ (f.refused ∷ more)) u w)
  refused_at {u} f more w leads =
      let s = lead_split kinds d f.before (f.refused ∷ more) u w leads in
      let e : s.0 ≡ f.walk = lead_one f.before u s.0 f.walk s.1 f.leads in
      f.fails (subst (λ m. IsAllowed kinds d f.refused m) e (s.2.0, s.2.1))

  pub refused_nowhere : (log : List Change) (u w : List Letter) (n : ℕ) → IsFirstRefused kinds d u log n → ¬ (Lead kinds d log u w)
  refused_nowhere log u w n f leads = refused_at f f.behind w (subst (λ m. Lead kinds d m u w) f.split leads)

  -- of two refused changes neither comes before the other
  not_before : {u : List Letter} {log : List Change} {m n : ℕ} (f : IsFirstRefused kinds d u log m) (g : IsFirstRefused kinds d u log n) → ¬ (length f.before < length g.before)
  not_before {u} f g less =
      let cut = cut_before f.before g.before f.behind g.behind f.refused g.refused (sym f.split ∙ g.split) less in
      refused_at f cut.0 g.walk (subst (λ b. Lead kinds d b u g.walk) cut.1 g.leads)

  pub one_refused : (log : List Change) (u : List Letter) (m n : ℕ) → IsFirstRefused kinds d u log m → IsFirstRefused kinds d u log n → m ≡ n
  one_refused log u m n f g =
      let below = not_before f g in
      let above = not_before g f in
      f.number ∙ ap suc (not_apart (length f.before) (length g.before) below above) ∙ sym g.number
    where
      not_apart : (a b : ℕ) → ¬ (a < b) → ¬ (b < a) → a ≡ b
      not_apart a b p q = omega (arith, p, q)
