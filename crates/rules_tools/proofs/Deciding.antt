-- Keys tell states and faces: equal keys are of equal states, and of states with two keys the faces
-- differ, or their classes, or those of two children.
use Rattle.std.proofs.Common.{◌≡◌, ◌≢◌, ◌⊎◌, inl, inr, ℕ, suc, ◌<◌, List, [], ◌∷◌, ◌++◌, map, length, slice_index_or, refl, ap, ap₂, ◌∙◌, arith}
use Rattle.std.proofs.lemmas.Bool.{cases_eq}
use Rattle.tree_model.specs.declared.Rule.{Rule}
use Rattle.tree_model.specs.declared.Rule.TheVariants.{Parent, Child, Left, Right}
use Rattle.tree_model.specs.declared.Claim.{Claim}
use Rattle.tree_model.specs.Automata.{TreeState}
use Rattle.merge_model.specs.Faces.{with_child, with_children, face}
use Rattle.rules_tools.specs.Keys.{rules_code, claims_code, state_code}

same_rules : (rs rs' : List Rule) (x y : List ℕ) → rules_code rs ++ 0 ∷ x ≡ rules_code rs' ++ 0 ∷ y → (rs ≡ rs') × (x ≡ y)
same_rules [] [] x y e = (refl, cc (e))
same_rules [] (Parent ∷ rs') x y e = absurd (cc (e))
same_rules [] (Left ∷ rs') x y e = absurd (cc (e))
same_rules [] (Right ∷ rs') x y e = absurd (cc (e))
same_rules [] ((Child d) ∷ rs') x y e = absurd (cc (e))
same_rules (Parent ∷ rs) [] x y e = absurd (cc (e))
same_rules (Left ∷ rs) [] x y e = absurd (cc (e))
same_rules (Right ∷ rs) [] x y e = absurd (cc (e))
same_rules ((Child c) ∷ rs) [] x y e = absurd (cc (e))
same_rules (Parent ∷ rs) (Parent ∷ rs') x y e =
    let rest : rules_code rs ++ 0 ∷ x ≡ rules_code rs' ++ 0 ∷ y = cc (e) in
    let (r, q) = same_rules rs rs' x y rest in
    (ap (λ l. Parent ∷ l) r, q)
same_rules (Parent ∷ rs) (Left ∷ rs') x y e = absurd (cc (e))
same_rules (Parent ∷ rs) (Right ∷ rs') x y e = absurd (cc (e))
same_rules (Parent ∷ rs) ((Child d) ∷ rs') x y e = absurd (cc (e))
same_rules (Left ∷ rs) (Parent ∷ rs') x y e = absurd (cc (e))
same_rules (Left ∷ rs) (Left ∷ rs') x y e =
    let rest : rules_code rs ++ 0 ∷ x ≡ rules_code rs' ++ 0 ∷ y = cc (e) in
    let (r, q) = same_rules rs rs' x y rest in
    (ap (λ l. Left ∷ l) r, q)
same_rules (Left ∷ rs) (Right ∷ rs') x y e = absurd (cc (e))
same_rules (Left ∷ rs) ((Child d) ∷ rs') x y e = absurd (cc (e))
same_rules (Right ∷ rs) (Parent ∷ rs') x y e = absurd (cc (e))
same_rules (Right ∷ rs) (Left ∷ rs') x y e = absurd (cc (e))
same_rules (Right ∷ rs) (Right ∷ rs') x y e =
    let rest : rules_code rs ++ 0 ∷ x ≡ rules_code rs' ++ 0 ∷ y = cc (e) in
    let (r, q) = same_rules rs rs' x y rest in
    (ap (λ l. Right ∷ l) r, q)
same_rules (Right ∷ rs) ((Child d) ∷ rs') x y e = absurd (cc (e))
same_rules ((Child c) ∷ rs) (Parent ∷ rs') x y e = absurd (cc (e))
same_rules ((Child c) ∷ rs) (Left ∷ rs') x y e = absurd (cc (e))
same_rules ((Child c) ∷ rs) (Right ∷ rs') x y e = absurd (cc (e))
same_rules ((Child c) ∷ rs) ((Child d) ∷ rs') x y e =
    let rest : rules_code rs ++ 0 ∷ x ≡ rules_code rs' ++ 0 ∷ y = cc (e) in
    let (r, q) = same_rules rs rs' x y rest in
    let number : c ≡ d = cc (e) in
    (ap₂ (λ n l. Child n ∷ l) number r, q)

abbrev make_claim : ℕ → ℕ → Claim
make_claim g t = record { corner = g; place = t }

same_claims : (qs qs' : List Claim) → claims_code qs ≡ claims_code qs' → qs ≡ qs'
same_claims [] [] e = refl
same_claims [] (q ∷ qs') e = absurd (cc (e))
same_claims (q ∷ qs) [] e = absurd (cc (e))
same_claims (q ∷ qs) (q' ∷ qs') e =
    let corner : q.corner ≡ q'.corner = cc (e) in
    let place : q.place ≡ q'.place = cc (e) in
    let rest : claims_code qs ≡ claims_code qs' = cc (e) in
    ap₂ (λ x l. x ∷ l) (ap₂ make_claim corner place) (same_claims qs qs' rest)

abbrev make_state : ℕ → ℕ → List Rule → List Claim → TreeState
make_state kind off rules claims = record { kind = kind; off = off; rules = rules; claims = claims }

pub made_same : (u v : TreeState) → u.kind ≡ v.kind → u.off ≡ v.off → u.rules ≡ v.rules → u.claims ≡ v.claims → u ≡ v
made_same u v k o r c =
    ap (λ x. make_state x u.off u.rules u.claims) k ∙ ap (λ x. make_state v.kind x u.rules u.claims) o
    ∙ ap (λ x. make_state v.kind v.off x u.claims) r ∙ ap (λ x. make_state v.kind v.off v.rules x) c

pub same_states : (u v : TreeState) → state_code u ≡ state_code v → u ≡ v
same_states u v e =
    let kind : u.kind ≡ v.kind = cc (e) in
    let off : u.off ≡ v.off = cc (e) in
    let rest : rules_code u.rules ++ 0 ∷ claims_code u.claims ≡ rules_code v.rules ++ 0 ∷ claims_code v.claims = cc (e) in
    let (rules, claims) = same_rules u.rules v.rules (claims_code u.claims) (claims_code v.claims) rest in
    made_same u v kind off rules (same_claims u.claims v.claims claims)

claim_cases : (q q' : Claim) → (q ≡ q') ⊎ (q ≢ q')
claim_cases q q' = go (cases_eq q.corner q'.corner) (cases_eq q.place q'.place)
  where
    go : (q.corner ≡ q'.corner) ⊎ (q.corner ≢ q'.corner) → (q.place ≡ q'.place) ⊎ (q.place ≢ q'.place) → (q ≡ q') ⊎ (q ≢ q')
    go (inl e) (inl e') = inl (ap₂ make_claim e e')
    go (inr d) _ = inr (λ e. d (ap (λ (x : Claim). x.corner) e))
    go (inl e) (inr d) = inr (λ e. d (ap (λ (x : Claim). x.place) e))

claims_cases : (qs qs' : List Claim) → (qs ≡ qs') ⊎ (qs ≢ qs')
claims_cases [] [] = inl refl
claims_cases [] (q ∷ qs') = inr (λ e. absurd (cc (e)))
claims_cases (q ∷ qs) [] = inr (λ e. absurd (cc (e)))
claims_cases (q ∷ qs) (q' ∷ qs') = go (claim_cases q q') (claims_cases qs qs')
  where
    go : (q ≡ q') ⊎ (q ≢ q') → (qs ≡ qs') ⊎ (qs ≢ qs') → (q ∷ qs ≡ q' ∷ qs') ⊎ (q ∷ qs ≢ q' ∷ qs')
    go (inl e) (inl e') = inl (ap₂ (λ x l. x ∷ l) e e')
    go (inr d) _ = inr (λ e. let head : q ≡ q' = cc (e) in d head)
    go (inl _) (inr d) = inr (λ e. let tail : qs ≡ qs' = cc (e) in d tail)

abbrev plain : Rule → Rule
plain r = with_child (λ c. 0) r

module _ (f : ℕ → ℕ) where
  abbrev OfHeads : Rule → Rule → Type 0
  OfHeads r r' = (with_child f r ≡ with_child f r') ⊎ ((plain r ≢ plain r') ⊎ ((c : ℕ) × (d : ℕ) × (r ≡ Child c) × (r' ≡ Child d) × (f c ≢ f d)))

  head_cases : (r r' : Rule) → OfHeads r r'
  head_cases Parent Parent = inl refl
  head_cases Parent Left = inr (inl (λ e. absurd (cc (e))))
  head_cases Parent Right = inr (inl (λ e. absurd (cc (e))))
  head_cases Parent (Child d) = inr (inl (λ e. absurd (cc (e))))
  head_cases Left Parent = inr (inl (λ e. absurd (cc (e))))
  head_cases Left Left = inl refl
  head_cases Left Right = inr (inl (λ e. absurd (cc (e))))
  head_cases Left (Child d) = inr (inl (λ e. absurd (cc (e))))
  head_cases Right Parent = inr (inl (λ e. absurd (cc (e))))
  head_cases Right Left = inr (inl (λ e. absurd (cc (e))))
  head_cases Right Right = inl refl
  head_cases Right (Child d) = inr (inl (λ e. absurd (cc (e))))
  head_cases (Child c) Parent = inr (inl (λ e. absurd (cc (e))))
  head_cases (Child c) Left = inr (inl (λ e. absurd (cc (e))))
  head_cases (Child c) Right = inr (inl (λ e. absurd (cc (e))))
  head_cases (Child c) (Child d) = go (cases_eq (f c) (f d))
    where
      go : (f c ≡ f d) ⊎ (f c ≢ f d) → OfHeads (Child c) (Child d)
      go (inl e) = inl (ap Child e)
      go (inr other) = inr (inr (c, d, refl, refl, other))

  pub data OfRules (rs rs' : List Rule) : Type 0 where
    one : map (with_child f) rs ≡ map (with_child f) rs' → OfRules rs rs'
    faces : map plain rs ≢ map plain rs' → OfRules rs rs'
    child : (i c d : ℕ) → i < length rs → slice_index_or rs i Parent ≡ Child c → slice_index_or rs' i Parent ≡ Child d → f c ≢ f d → OfRules rs rs'

  pub rules_cases : (rs rs' : List Rule) → OfRules rs rs'
  rules_cases [] [] = one refl
  rules_cases [] (r ∷ rs') = faces (λ e. absurd (cc (e)))
  rules_cases (r ∷ rs) [] = faces (λ e. absurd (cc (e)))
  rules_cases (r ∷ rs) (r' ∷ rs') = go (head_cases r r') (rules_cases rs rs')
    where
      go : OfHeads r r' → OfRules rs rs' → OfRules (r ∷ rs) (r' ∷ rs')
      go (inl e) (one q) = one (ap₂ (λ x l. x ∷ l) e q)
      go (inl e) (faces n) = faces (λ q. let tail : map plain rs ≡ map plain rs' = cc (q) in n tail)
      go (inl e) (child i c d lt h h' other) = child (suc i) c d (omega (arith, lt)) h h' other
      go (inr (inl n)) _ = faces (λ q. let head : plain r ≡ plain r' = cc (q) in n head)
      go (inr (inr (c, d, h, h', other))) _ = child 0 c d (omega arith) h h' other

  -- rules of one face, with children of one class, are one by classes
  pub one_rules : (rs rs' : List Rule) → map plain rs ≡ map plain rs' → ((i c d : ℕ) → i < length rs → slice_index_or rs i Parent ≡ Child c → slice_index_or rs' i Parent ≡ Child d → f c ≡ f d) → map (with_child f) rs ≡ map (with_child f) rs'
  one_rules rs rs' e each = go (rules_cases rs rs')
    where
      go : OfRules rs rs' → map (with_child f) rs ≡ map (with_child f) rs'
      go (one q) = q
      go (faces n) = absurd (n e)
      go (child i c d lt h h' other) = absurd (other (each i c d lt h h'))

  pub data OfStates (u v : TreeState) : Type 0 where
    one_state : with_children f u ≡ with_children f v → OfStates u v
    two_faces : face u ≢ face v → OfStates u v
    two_children : (i c d : ℕ) → i < length u.rules → slice_index_or u.rules i Parent ≡ Child c → slice_index_or v.rules i Parent ≡ Child d → f c ≢ f d → OfStates u v

  pub states_cases : (u v : TreeState) → OfStates u v
  states_cases u v = go (cases_eq u.kind v.kind) (cases_eq u.off v.off) (claims_cases u.claims v.claims) (rules_cases u.rules v.rules)
    where
      go : (u.kind ≡ v.kind) ⊎ (u.kind ≢ v.kind) → (u.off ≡ v.off) ⊎ (u.off ≢ v.off) → (u.claims ≡ v.claims) ⊎ (u.claims ≢ v.claims) → OfRules u.rules v.rules → OfStates u v
      go (inr d) _ _ _ = two_faces (λ e. d (ap (λ (x : TreeState). x.kind) e))
      go (inl k) (inr d) _ _ = two_faces (λ e. d (ap (λ (x : TreeState). x.off) e))
      go (inl k) (inl o) (inr d) _ = two_faces (λ e. d (ap (λ (x : TreeState). x.claims) e))
      go (inl k) (inl o) (inl c) (one r) = one_state (made_same (with_children f u) (with_children f v) k o r c)
      go (inl k) (inl o) (inl c) (faces n) = two_faces (λ e. n (ap (λ (x : TreeState). x.rules) e))
      go (inl k) (inl o) (inl _) (child i c d lt h h' other) = two_children i c d lt h h' other
