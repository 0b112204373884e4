-- Entering what a line says: when it is good, and what the tables hold afterwards.
use Rattle.std.proofs.Common.{◌≡◌, ◌≢◌, ℕ, ◌<◌, ◌≤◌, inl, inr, Bool, true, false, List, [], ◌∷◌, ◌++◌, length, get_or, set, map, replicate, refl, sym, ◌∙◌, ap, subst, arith, cond, None, Some}
use Rattle.std.specs.Prelude.{◌↔◌, Option, IsTrue, MatchBool}
use Rattle.std.specs.Option.{option_or}
use Rattle.std.proofs.lemmas.List.{get_or-set_same, get_or-set_other, length-set, length-map, length-append, length-replicate, map-append, append-nil, get_or_append_left, get_or-replicate}
use Rattle.std.proofs.Math.ListN.{get_or-map, get_or-eq_default}
use Rattle.std.proofs.Math.Seq.{map-set_same, get_or-append_seam}
use Rattle.std.proofs.lemmas.Bool.{cases_eq, cases_lt, cases_Bool}
use Rattle.std.proofs.lemmas.Bool.Decides.{nat_tests}
use Rattle.tess_text.specs.declared.entry.Entry.{Entry}
use Rattle.tess_text.specs.declared.entry.Entry.TheVariants.{Kind, Join, Corner}
use Rattle.tess_text.specs.Grammar.{shapes, is_same, partner_in, partner, valence_in, valence, IsUnjoined, IsUngiven, IsGoodEntry}
use Rattle.tess_text.specs.Tables.{Table, blank, table_at, partner_at, valence_at, IsUnjoinedAt, IsUngivenAt, put_partner, put_valence, Hold}

-- what a list of entries says with one entry more
pub shapes-push : (es : List Entry) (e : Entry) → shapes (es ++ e ∷ []) ≡ shapes es ++ shapes (e ∷ [])
shapes-push [] e = refl
shapes-push (Kind k sides repeat ∷ es) e = ap (λ (l : List (ℕ × ℕ)). (sides, repeat) ∷ l) (shapes-push es e)
shapes-push (Join k s k2 s2 mark ∷ es) e = shapes-push es e
shapes-push (Corner k s v ∷ es) e = shapes-push es e

or_none : {X : Type 0} (o : Option X) → option_or o None ≡ o
or_none None = refl
or_none (Some x) = refl

or_assoc : {X : Type 0} (a b c : Option X) → option_or a (option_or b c) ≡ option_or (option_or a b) c
or_assoc None b c = refl
or_assoc (Some x) b c = refl

pub partner-push : (es : List Entry) (e : Entry) (d : ℕ × ℕ) → partner (es ++ e ∷ []) d ≡ option_or (partner es d) (partner_in e d)
partner-push [] e d = or_none (partner_in e d)
partner-push (f ∷ es) e d = ap (λ (o : Option (ℕ × ℕ × Bool)). option_or (partner_in f d) o) (partner-push es e d) ∙ or_assoc (partner_in f d) (partner es d) (partner_in e d)

pub valence-push : (es : List Entry) (e : Entry) (d : ℕ × ℕ) → valence (es ++ e ∷ []) d ≡ option_or (valence es d) (valence_in e d)
valence-push [] e d = or_none (valence_in e d)
valence-push (f ∷ es) e d = ap (λ (o : Option ℕ). option_or (valence_in f d) o) (valence-push es e d) ∙ or_assoc (valence_in f d) (valence es d) (valence_in e d)

-- the two ways of a test of pairs
pub same_pair : (d e : ℕ × ℕ) → is_same d e ≡ true → d ≡ e
same_pair d e test = λ i. (first i, second i)
  where
    first : d.0 ≡ e.0
    first = grind (arith, nat_tests)

    second : d.1 ≡ e.1
    second = grind (arith, nat_tests)

pub same_self : (d : ℕ × ℕ) → is_same d d ≡ true
same_self d = grind (arith, nat_tests)

pub apart : (d e : ℕ × ℕ) → is_same d e ≡ false → d.0 ≡ e.0 → d.1 ≢ e.1
apart d e test same = λ other. absurd (grind (arith, nat_tests))

-- a table after one is set
at_same : (tables : List Table) (k : ℕ) (t : Table) → k < length tables → table_at (set tables k t) k ≡ t
at_same tables k t lt = get_or-set_same tables k t (blank 0 0) lt

at_other : (tables : List Table) (k j : ℕ) (t : Table) → j ≢ k → table_at (set tables k t) j ≡ table_at tables j
at_other tables k j t ne = get_or-set_other tables k j t (blank 0 0) ne

-- partners after one is put
partner_put : (tables : List Table) (d : ℕ × ℕ) (e : ℕ × ℕ × Bool) (q : ℕ × ℕ) → d.0 < length tables → d.1 < length (table_at tables d.0).partner → partner_at (put_partner tables d e) q ≡ cond (is_same q d) (Some e) (partner_at tables q)
partner_put tables d e q kind residue =
    let t : Table = record (table_at tables d.0) { partner = set (table_at tables d.0).partner d.1 (Some e) } in
    elim (cases_Bool (is_same q d)) [
      | inl same ↦
          let is = same_pair q d same in
          rw (same, is, at_same tables d.0 t kind) (get_or-set_same (table_at tables d.0).partner d.1 (Some e) None residue)
      | inr other ↦ elim (cases_eq q.0 d.0) [
        | inl here ↦ rw (other, here, at_same tables d.0 t kind) (get_or-set_other (table_at tables d.0).partner d.1 q.1 (Some e) None (apart q d other here))
        | inr away ↦ rw (other, at_other tables d.0 q.0 t away) refl
      ]
    ]

-- valences after one is put
valence_put : (tables : List Table) (d q : ℕ × ℕ) (v : ℕ) → d.0 < length tables → d.1 < length (table_at tables d.0).valence → valence_at (put_valence tables d v) q ≡ cond (is_same q d) (Some v) (valence_at tables q)
valence_put tables d q v kind residue =
    let t : Table = record (table_at tables d.0) { valence = set (table_at tables d.0).valence d.1 (Some v) } in
    elim (cases_Bool (is_same q d)) [
      | inl same ↦
          let is = same_pair q d same in
          rw (same, is, at_same tables d.0 t kind) (get_or-set_same (table_at tables d.0).valence d.1 (Some v) None residue)
      | inr other ↦ elim (cases_eq q.0 d.0) [
        | inl here ↦ rw (other, here, at_same tables d.0 t kind) (get_or-set_other (table_at tables d.0).valence d.1 q.1 (Some v) None (apart q d other here))
        | inr away ↦ rw (other, at_other tables d.0 q.0 t away) refl
      ]
    ]

-- each put leaves the other list as it was
partner_kept : (tables : List Table) (d q : ℕ × ℕ) (v : ℕ) → d.0 < length tables → partner_at (put_valence tables d v) q ≡ partner_at tables q
partner_kept tables d q v kind =
    let t : Table = record (table_at tables d.0) { valence = set (table_at tables d.0).valence d.1 (Some v) } in
    elim (cases_eq q.0 d.0) [
      | inl here ↦ rw (here, at_same tables d.0 t kind) refl
      | inr away ↦ rw (at_other tables d.0 q.0 t away) refl
    ]

valence_kept : (tables : List Table) (d : ℕ × ℕ) (e : ℕ × ℕ × Bool) (q : ℕ × ℕ) → d.0 < length tables → valence_at (put_partner tables d e) q ≡ valence_at tables q
valence_kept tables d e q kind =
    let t : Table = record (table_at tables d.0) { partner = set (table_at tables d.0).partner d.1 (Some e) } in
    elim (cases_eq q.0 d.0) [
      | inl here ↦ rw (here, at_same tables d.0 t kind) refl
      | inr away ↦ rw (at_other tables d.0 q.0 t away) refl
    ]

-- the kinds keep their shapes, and the lists their lengths
pub record HasShapes (tables : List Table) (said : List (ℕ × ℕ)) : Type 0 where
  pub shapes : map (λ (t : Table). (t.sides, t.repeat)) tables ≡ said
  pub partners : (k : ℕ) → k < length tables → length (table_at tables k).partner ≡ (table_at tables k).repeat
  pub valences : (k : ℕ) → k < length tables → length (table_at tables k).valence ≡ (table_at tables k).repeat

abbrev shape : Table → ℕ × ℕ
shape t = (t.sides, t.repeat)

set_shapes : (tables : List Table) (said : List (ℕ × ℕ)) (k : ℕ) (t : Table) → HasShapes tables said → k < length tables → t.sides ≡ (table_at tables k).sides → t.repeat ≡ (table_at tables k).repeat → length t.partner ≡ length (table_at tables k).partner → length t.valence ≡ length (table_at tables k).valence → HasShapes (set tables k t) said
set_shapes tables said k t has lt sides repeat partners valences =
    let here : table_at (set tables k t) k ≡ t = at_same tables k t lt in
    record {
      shapes = map-set_same shape tables k t (blank 0 0) (λ i. (sides i, repeat i)) ∙ has.shapes;
      partners = λ j lj. elim (cases_eq j k) [
        | inl same ↦ rw (same, here) (partners ∙ has.partners k lt ∙ sym repeat)
        | inr ne ↦ rw (at_other tables k j t ne) (has.partners j (omega (arith, length-set tables k t)))
      ];
      valences = λ j lj. elim (cases_eq j k) [
        | inl same ↦ rw (same, here) (valences ∙ has.valences k lt ∙ sym repeat)
        | inr ne ↦ rw (at_other tables k j t ne) (has.valences j (omega (arith, length-set tables k t)))
      ];
    }

shapes_of : (tables : List Table) (es : List Entry) → Hold tables es → HasShapes tables (shapes es)
shapes_of tables es hold = record { shapes = hold.shapes; partners = hold.partners; valences = hold.valences }

put_partner_shapes : (tables : List Table) (said : List (ℕ × ℕ)) (d : ℕ × ℕ) (e : ℕ × ℕ × Bool) → HasShapes tables said → d.0 < length tables → HasShapes (put_partner tables d e) said
put_partner_shapes tables said d e has kind = set_shapes tables said d.0 _ has kind refl refl (length-set (table_at tables d.0).partner d.1 (Some e)) refl

put_valence_shapes : (tables : List Table) (said : List (ℕ × ℕ)) (d : ℕ × ℕ) (v : ℕ) → HasShapes tables said → d.0 < length tables → HasShapes (put_valence tables d v) said
put_valence_shapes tables said d v has kind = set_shapes tables said d.0 _ has kind refl refl refl (length-set (table_at tables d.0).valence d.1 (Some v))

-- the number of kinds, and the repeat of each
pub kinds_said : (tables : List Table) (es : List Entry) → Hold tables es → length tables ≡ length (shapes es)
kinds_said tables es hold = sym (length-map tables shape) ∙ ap (λ (l : List (ℕ × ℕ)). length l) hold.shapes

pub repeat_said : (tables : List Table) (es : List Entry) (k : ℕ) → Hold tables es → (get_or (shapes es) k (0, 0)).1 ≡ (table_at tables k).repeat
repeat_said tables es k hold = ap (λ (l : List (ℕ × ℕ)). (get_or l k (0, 0)).1) (sym hold.shapes) ∙ ap (λ (p : ℕ × ℕ). p.1) (get_or-map shape tables k (blank 0 0))

-- a side is free in the tables where it is by what was said
pub unjoined : (tables : List Table) (es : List Entry) (d : ℕ × ℕ) → Hold tables es → IsUnjoinedAt tables d → IsUnjoined es d
unjoined tables es d hold at = record {
  side = (omega (arith, kinds_said tables es hold, at.kind), omega (arith, repeat_said tables es d.0 hold, hold.partners d.0 at.kind, at.residue));
  free = sym (hold.joined d) ∙ at.free;
}

pub unjoined_at : (tables : List Table) (es : List Entry) (d : ℕ × ℕ) → Hold tables es → IsUnjoined es d → IsUnjoinedAt tables d
unjoined_at tables es d hold free =
    let kind : d.0 < length tables = omega (arith, kinds_said tables es hold, free.side.0) in
    record {
      kind = kind;
      residue = omega (arith, repeat_said tables es d.0 hold, hold.partners d.0 kind, free.side.1);
      free = hold.joined d ∙ free.free;
    }

pub ungiven : (tables : List Table) (es : List Entry) (d : ℕ × ℕ) → Hold tables es → IsUngivenAt tables d → IsUngiven es d
ungiven tables es d hold at = record {
  side = (omega (arith, kinds_said tables es hold, at.kind), omega (arith, repeat_said tables es d.0 hold, hold.valences d.0 at.kind, at.residue));
  free = sym (hold.given d) ∙ at.free;
}

pub ungiven_at : (tables : List Table) (es : List Entry) (d : ℕ × ℕ) → Hold tables es → IsUngiven es d → IsUngivenAt tables d
ungiven_at tables es d hold free =
    let kind : d.0 < length tables = omega (arith, kinds_said tables es hold, free.side.0) in
    record {
      kind = kind;
      residue = omega (arith, repeat_said tables es d.0 hold, hold.valences d.0 kind, free.side.1);
      free = hold.given d ∙ free.free;
    }

-- the partner of each side q after a join of d and e
join_cases : (d e q : ℕ × ℕ) (mark : Bool) (o : Option (ℕ × ℕ × Bool)) (is_d is_e : Bool) → (is_d ≡ true → q ≡ d) → (is_e ≡ true → q ≡ e) → (is_d ≡ true → o ≡ None) → (is_e ≡ true → o ≡ None) → cond is_e (Some (d.0, d.1, mark)) (cond is_d (Some (e.0, e.1, mark)) o) ≡ option_or o (cond is_d (Some (e.0, e.1, mark)) (cond is_e (Some (d.0, d.1, mark)) None))
join_cases d e q mark o true true at_d at_e free_d free_e = rw (free_d refl) (ap (λ (p : ℕ × ℕ). Some (p.0, p.1, mark)) (sym (at_d refl) ∙ at_e refl))
join_cases d e q mark o true false at_d at_e free_d free_e = rw (free_d refl) refl
join_cases d e q mark o false true at_d at_e free_d free_e = rw (free_e refl) refl
join_cases d e q mark o false false at_d at_e free_d free_e = sym (or_none o)

corner_cases : (v : ℕ) (o : Option ℕ) (is_d : Bool) → (is_d ≡ true → o ≡ None) → cond is_d (Some v) o ≡ option_or o (cond is_d (Some v) None)
corner_cases v o true free = rw (free refl) refl
corner_cases v o false free = sym (or_none o)

-- a put keeps each place
place_kept : (tables : List Table) (d : ℕ × ℕ) (e : ℕ × ℕ × Bool) (k s : ℕ) → d.0 < length tables → s < length (table_at tables k).partner → s < length (table_at (put_partner tables d e) k).partner
place_kept tables d e k s kind lt =
    let t : Table = record (table_at tables d.0) { partner = set (table_at tables d.0).partner d.1 (Some e) } in
    elim (cases_eq k d.0) [
      | inl here ↦ rw (here, at_same tables d.0 t kind) (omega (arith, length-set (table_at tables d.0).partner d.1 (Some e), subst (λ (j : ℕ). s < length (table_at tables j).partner) here lt))
      | inr away ↦ rw (at_other tables d.0 k t away) lt
    ]

-- the tables after a join
pub hold_join : (tables : List Table) (es : List Entry) (d e : ℕ × ℕ) (mark : Bool) → Hold tables es → IsUnjoinedAt tables d → IsUnjoinedAt tables e → Hold (put_partner (put_partner tables d (e.0, e.1, mark)) e (d.0, d.1, mark)) (es ++ Join d.0 d.1 e.0 e.1 mark ∷ [])
hold_join tables es d e mark hold at_d at_e =
    let across : ℕ × ℕ × Bool = (e.0, e.1, mark) in
    let back : ℕ × ℕ × Bool = (d.0, d.1, mark) in
    let first = put_partner tables d across in
    let t : Table = record (table_at tables d.0) { partner = set (table_at tables d.0).partner d.1 (Some across) } in
    let kind : e.0 < length first = omega (arith, length-set tables d.0 t, at_e.kind) in
    let has1 = put_partner_shapes tables (shapes es) d across (shapes_of tables es hold) at_d.kind in
    let has2 = put_partner_shapes first (shapes es) e back has1 kind in
    let residue : e.1 < length (table_at first e.0).partner = place_kept tables d across e.0 e.1 at_d.kind at_e.residue in
    record {
      shapes = has2.shapes ∙ sym (shapes-push es (Join d.0 d.1 e.0 e.1 mark) ∙ append-nil (shapes es));
      partners = has2.partners;
      valences = has2.valences;
      joined = λ q.
          partner_put first e back q kind residue
          ∙ ap (λ (o : Option (ℕ × ℕ × Bool)). cond (is_same q e) (Some back) o) (partner_put tables d across q at_d.kind at_d.residue)
          ∙ join_cases d e q mark (partner_at tables q) (is_same q d) (is_same q e) (same_pair q d) (same_pair q e)
          (λ same. ap (λ (p : ℕ × ℕ). partner_at tables p) (same_pair q d same) ∙ at_d.free)
          (λ same. ap (λ (p : ℕ × ℕ). partner_at tables p) (same_pair q e same) ∙ at_e.free)
          ∙ ap (λ (o : Option (ℕ × ℕ × Bool)). option_or o (partner_in (Join d.0 d.1 e.0 e.1 mark) q)) (hold.joined q)
          ∙ sym (partner-push es (Join d.0 d.1 e.0 e.1 mark) q);
      given = λ q.
          valence_kept first e back q kind ∙ valence_kept tables d across q at_d.kind ∙ hold.given q
          ∙ sym (valence-push es (Join d.0 d.1 e.0 e.1 mark) q ∙ or_none (valence es q));
    }

-- the tables after a corner
pub hold_corner : (tables : List Table) (es : List Entry) (d : ℕ × ℕ) (v : ℕ) → Hold tables es → IsUngivenAt tables d → Hold (put_valence tables d v) (es ++ Corner d.0 d.1 v ∷ [])
hold_corner tables es d v hold at =
    let has = put_valence_shapes tables (shapes es) d v (shapes_of tables es hold) at.kind in
    record {
      shapes = has.shapes ∙ sym (shapes-push es (Corner d.0 d.1 v) ∙ append-nil (shapes es));
      partners = has.partners;
      valences = has.valences;
      joined = λ q.
          partner_kept tables d q v at.kind ∙ hold.joined q
          ∙ sym (partner-push es (Corner d.0 d.1 v) q ∙ or_none (partner es q));
      given = λ q.
          valence_put tables d q v at.kind at.residue
          ∙ corner_cases v (valence_at tables q) (is_same q d) (λ same. ap (λ (p : ℕ × ℕ). valence_at tables p) (same_pair q d same) ∙ at.free)
          ∙ ap (λ (o : Option ℕ). option_or o (valence_in (Corner d.0 d.1 v) q)) (hold.given q)
          ∙ sym (valence-push es (Corner d.0 d.1 v) q);
    }

-- the tables with a blank one more
push_left : (tables : List Table) (t : Table) (k : ℕ) → k < length tables → table_at (tables ++ t ∷ []) k ≡ table_at tables k
push_left tables t k lt = get_or_append_left tables (t ∷ []) (blank 0 0) k lt

push_last : (tables : List Table) (t : Table) (k : ℕ) → k ≡ length tables → table_at (tables ++ t ∷ []) k ≡ t
push_last tables t k last = rw last (get_or-append_seam tables t [] (blank 0 0))

same_replicate : {X : Type 0} (n i : ℕ) (x : X) → get_or (replicate n x) i x ≡ x
same_replicate n i x = elim (cases_lt i n) [
  | inl lt ↦ get_or-replicate n i x x lt
  | inr ge ↦ get_or-eq_default (replicate n x) x (omega (arith, length-replicate n x))
]

beyond : (tables : List Table) (k : ℕ) → length tables ≤ k → table_at tables k ≡ blank 0 0
beyond tables k le = get_or-eq_default tables (blank 0 0) le

blank_partner : (tables : List Table) (sides repeat : ℕ) (q : ℕ × ℕ) → partner_at (tables ++ blank sides repeat ∷ []) q ≡ partner_at tables q
blank_partner tables sides repeat q = elim (cases_lt q.0 (length tables)) [
  | inl lt ↦ rw (push_left tables (blank sides repeat) q.0 lt) refl
  | inr ge ↦ elim (cases_eq q.0 (length tables)) [
    | inl last ↦ rw (push_last tables (blank sides repeat) q.0 last, beyond tables q.0 ge) (same_replicate repeat q.1 None)
    | inr further ↦ rw (beyond (tables ++ blank sides repeat ∷ []) q.0 (omega (arith, length-append tables (blank sides repeat ∷ []))), beyond tables q.0 ge) refl
  ]
]

blank_valence : (tables : List Table) (sides repeat : ℕ) (q : ℕ × ℕ) → valence_at (tables ++ blank sides repeat ∷ []) q ≡ valence_at tables q
blank_valence tables sides repeat q = elim (cases_lt q.0 (length tables)) [
  | inl lt ↦ rw (push_left tables (blank sides repeat) q.0 lt) refl
  | inr ge ↦ elim (cases_eq q.0 (length tables)) [
    | inl last ↦ rw (push_last tables (blank sides repeat) q.0 last, beyond tables q.0 ge) (same_replicate repeat q.1 None)
    | inr further ↦ rw (beyond (tables ++ blank sides repeat ∷ []) q.0 (omega (arith, length-append tables (blank sides repeat ∷ []))), beyond tables q.0 ge) refl
  ]
]

-- the tables after a kind
pub hold_kind : (tables : List Table) (es : List Entry) (k sides repeat : ℕ) → Hold tables es → Hold (tables ++ blank sides repeat ∷ []) (es ++ Kind k sides repeat ∷ [])
hold_kind tables es k sides repeat hold =
    let t : Table = blank sides repeat in
    record {
      shapes = map-append shape tables (t ∷ []) ∙ ap (λ (l : List (ℕ × ℕ)). l ++ (sides, repeat) ∷ []) hold.shapes ∙ sym (shapes-push es (Kind k sides repeat));
      partners = λ j lj. elim (cases_lt j (length tables)) [
        | inl lt ↦ rw (push_left tables t j lt) (hold.partners j lt)
        | inr ge ↦ rw (push_last tables t j (omega (arith, length-append tables (t ∷ [])))) (length-replicate repeat None)
      ];
      valences = λ j lj. elim (cases_lt j (length tables)) [
        | inl lt ↦ rw (push_left tables t j lt) (hold.valences j lt)
        | inr ge ↦ rw (push_last tables t j (omega (arith, length-append tables (t ∷ [])))) (length-replicate repeat None)
      ];
      joined = λ q. blank_partner tables sides repeat q ∙ hold.joined q ∙ sym (partner-push es (Kind k sides repeat) q ∙ or_none (partner es q));
      given = λ q. blank_valence tables sides repeat q ∙ hold.given q ∙ sym (valence-push es (Kind k sides repeat) q ∙ or_none (valence es q));
    }

-- the three ways to enter what a line says
pub entered_kind : (tables after : List Table) (es : List Entry) (entry : Entry) (k sides repeat : ℕ) → entry ≡ Kind k sides repeat → k ≡ length tables → after ≡ tables ++ blank sides repeat ∷ [] → Hold tables es → IsGoodEntry es entry × Hold after (es ++ entry ∷ [])
entered_kind tables after es entry k sides repeat is number changed hold =
    subst (λ (e : Entry). IsGoodEntry es e × Hold after (es ++ e ∷ [])) (sym is)
    (number ∙ kinds_said tables es hold, subst (λ (ts : List Table). Hold ts (es ++ Kind k sides repeat ∷ [])) (sym changed) (hold_kind tables es k sides repeat hold))

pub no_kind : (tables : List Table) (es : List Entry) (entry : Entry) (k sides repeat : ℕ) → entry ≡ Kind k sides repeat → k ≢ length tables → Hold tables es → IsGoodEntry es entry → ⊥
no_kind tables es entry k sides repeat is other hold good =
    other (subst (λ (e : Entry). IsGoodEntry es e) is good ∙ sym (kinds_said tables es hold))

pub entered_join : (tables after : List Table) (es : List Entry) (entry : Entry) (d e : ℕ × ℕ) (mark : Bool) (r : Bool) → entry ≡ Join d.0 d.1 e.0 e.1 mark → IsTrue r ↔ (IsUnjoinedAt tables d × IsUnjoinedAt tables e) → (IsTrue r → after ≡ put_partner (put_partner tables d (e.0, e.1, mark)) e (d.0, d.1, mark)) → Hold tables es → MatchBool r (IsGoodEntry es entry × Hold after (es ++ entry ∷ [])) (IsGoodEntry es entry → ⊥)
entered_join tables after es entry d e mark true is test changed hold =
    let free = test.0 refl in
    subst (λ (x : Entry). IsGoodEntry es x × Hold after (es ++ x ∷ [])) (sym is)
    ((unjoined tables es d hold free.0, unjoined tables es e hold free.1), subst (λ (ts : List Table). Hold ts (es ++ Join d.0 d.1 e.0 e.1 mark ∷ [])) (sym (changed refl)) (hold_join tables es d e mark hold free.0 free.1))
entered_join tables after es entry d e mark false is test changed hold = λ good.
    let both = subst (λ (x : Entry). IsGoodEntry es x) is good in
    let no : false ≡ true = test.1 (unjoined_at tables es d hold both.0, unjoined_at tables es e hold both.1) in
    absurd (cc)

pub entered_corner : (tables after : List Table) (es : List Entry) (entry : Entry) (d : ℕ × ℕ) (v : ℕ) (r : Bool) → entry ≡ Corner d.0 d.1 v → IsTrue r ↔ IsUngivenAt tables d → (IsTrue r → after ≡ put_valence tables d v) → Hold tables es → MatchBool r (IsGoodEntry es entry × Hold after (es ++ entry ∷ [])) (IsGoodEntry es entry → ⊥)
entered_corner tables after es entry d v true is test changed hold =
    let free = test.0 refl in
    subst (λ (x : Entry). IsGoodEntry es x × Hold after (es ++ x ∷ [])) (sym is)
    (ungiven tables es d hold free, subst (λ (ts : List Table). Hold ts (es ++ Corner d.0 d.1 v ∷ [])) (sym (changed refl)) (hold_corner tables es d v hold free))
entered_corner tables after es entry d v false is test changed hold = λ good.
    let free = subst (λ (x : Entry). IsGoodEntry es x) is good in
    let no : false ≡ true = test.1 (ungiven_at tables es d hold free) in
    absurd (cc)
