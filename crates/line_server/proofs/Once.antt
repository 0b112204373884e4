-- Bytes are cut at their line feeds in one way.
use Rattle.std.proofs.Common.{◌≡◌, ◌≢◌, ℕ, List, [], ◌∷◌, ◌++◌, get_or, drop, refl, sym, ap, ap₂, ◌∙◌, subst}
use Rattle.std.specs.List.{All}
use Rattle.std.proofs.lemmas.List.{append_assoc}
use Rattle.std.proofs.lemmas.List.Elements.{All-head, All-tail}
use Rattle.line_server.specs.Lines.{feed, LacksFeed, ended}

abbrev IsNoFeed : ℕ → Type 0
IsNoFeed byte = byte ≢ feed

-- bytes without a line feed do not hold one
lacks_none : (line front rest : List ℕ) → LacksFeed line → line ≡ front ++ feed ∷ rest → ⊥
lacks_none [] [] rest lacks e = absurd (cc)
lacks_none [] (b ∷ front) rest lacks e = absurd (cc)
lacks_none (byte ∷ line) [] rest lacks e =
    All-head IsNoFeed byte line lacks (ap (λ (l : List ℕ). get_or l 0 0) e)
lacks_none (byte ∷ line) (b ∷ front) rest lacks e =
    lacks_none line front rest (All-tail IsNoFeed byte line lacks) (ap (λ (l : List ℕ). drop 1 l) e)

-- the first line feed splits bytes in one way
split_once :
    (line other rest more : List ℕ) → LacksFeed line → LacksFeed other
    → line ++ feed ∷ rest ≡ other ++ feed ∷ more → (line ≡ other) × (rest ≡ more)
split_once [] [] rest more lacks too e = (refl, ap (λ (l : List ℕ). drop 1 l) e)
split_once [] (b ∷ other) rest more lacks too e =
    absurd (All-head IsNoFeed b other too (sym (ap (λ (l : List ℕ). get_or l 0 0) e)))
split_once (byte ∷ line) [] rest more lacks too e =
    absurd (All-head IsNoFeed byte line lacks (ap (λ (l : List ℕ). get_or l 0 0) e))
split_once (byte ∷ line) (b ∷ other) rest more lacks too e =
    let same =
    split_once line other rest more (All-tail IsNoFeed byte line lacks)
    (All-tail IsNoFeed b other too) (ap (λ (l : List ℕ). drop 1 l) e) in
    (ap₂ (λ (x : ℕ) (l : List ℕ). x ∷ l) (ap (λ (l : List ℕ). get_or l 0 0) e) same.0, same.1)

-- What stands in front of a line feed in the bytes, up to `line`, is among the lines that the bytes are cut into.
cut_on :
    (line : List ℕ) (lines : List (List ℕ)) (rest more : List ℕ) → All LacksFeed lines
    → LacksFeed rest → LacksFeed line → line ++ feed ∷ more ≡ ended lines ++ rest
    → (others : List (List ℕ)) × (lines ≡ line ∷ others) × (more ≡ ended others ++ rest)
cut_on line [] rest more whole open_end lacks e =
    absurd (lacks_none rest line more open_end (sym e))
cut_on line (other ∷ lines) rest more whole open_end lacks e =
    let same =
    split_once line other more (ended lines ++ rest) lacks (All-head LacksFeed other lines whole)
    (e ∙ append_assoc other (feed ∷ ended lines) rest) in
    (lines, ap (λ l. l ∷ lines) (sym same.0), same.1)

-- the first lines of the bytes are the first lines that they are cut into
pub cut_front :
    (front lines : List (List ℕ)) (rest more : List ℕ) → All LacksFeed front → All LacksFeed lines
    → LacksFeed rest → ended front ++ more ≡ ended lines ++ rest
    → (others : List (List ℕ)) × (lines ≡ front ++ others) × (more ≡ ended others ++ rest)
cut_front [] lines rest more all whole open_end e = (lines, refl, e)
cut_front (line ∷ front) lines rest more all whole open_end e =
    let first =
    cut_on line lines rest (ended front ++ more) whole open_end
    (All-head LacksFeed line front all) (sym (append_assoc line (feed ∷ ended front) more) ∙ e) in
    let others = first.0 in
    let tail : All LacksFeed others =
    All-tail LacksFeed line others (subst (All LacksFeed) first.1 whole) in
    let then =
    cut_front front others rest more (All-tail LacksFeed line front all) tail open_end first.2 in
    (then.0, first.1 ∙ ap (λ l. line ∷ l) then.1, then.2)

-- bytes are cut into lines in one way
pub one_cut :
    (lines others : List (List ℕ)) (rest more : List ℕ) → All LacksFeed lines → All LacksFeed others
    → LacksFeed rest → LacksFeed more → ended lines ++ rest ≡ ended others ++ more
    → (lines ≡ others) × (rest ≡ more)
one_cut [] [] rest more whole all lacks too e = (refl, e)
one_cut [] (line ∷ others) rest more whole all lacks too e =
    absurd (lacks_none rest line (ended others ++ more) lacks (e ∙ append_assoc line (feed ∷ ended others) more))
one_cut (line ∷ lines) others rest more whole all lacks too e =
    let first =
    cut_on line others more (ended lines ++ rest) all too (All-head LacksFeed line lines whole)
    (sym (append_assoc line (feed ∷ ended lines) rest) ∙ e) in
    let tail : All LacksFeed first.0 =
    All-tail LacksFeed line first.0 (subst (All LacksFeed) first.1 all) in
    let then =
    one_cut lines first.0 rest more (All-tail LacksFeed line lines whole) tail lacks too first.2
    in
    (ap (λ l. line ∷ l) then.0 ∙ sym first.1, then.1)
