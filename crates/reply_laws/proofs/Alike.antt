-- A reply that is due by one reading is due by each that says the same.
use Rattle.std.proofs.Common.{ℕ, ◌<◌, List, [], ◌++◌, length}
use Rattle.tile_model.specs.declared.Letter.{Letter}
use Rattle.tile_model.specs.Tessellations.{TileKind}
use Rattle.tree_model.specs.Names.{word}
use Rattle.reply_model.specs.declared.Command.{Command}
use Rattle.reply_model.specs.declared.Reply.{Reply}
use Rattle.reply_model.specs.Histories.{History, walk_of}
use Rattle.reply_model.specs.Readings.{Reading}
use Rattle.reply_model.specs.Ways.{end_type, way_between}
use Rattle.reply_model.specs.Replies.{AreFar, PassesFar, TreePathPassesFar, IsReply}
use Rattle.reply_model.specs.Replies.{new_taken, new_made, go_nobody, go_deep, go_gone}
use Rattle.reply_model.specs.Replies.{at_nobody, at_place, same_nobody, same_tile, other_tile}
use Rattle.reply_model.specs.Replies.{level_nobody, level_told, dist_nobody, dist_deep, dist_told}
use Rattle.reply_model.specs.Replies.{path_nobody, path_deep, path_told}
use Rattle.reply_model.specs.Replies.{put_nobody, put_long, put_written}
use Rattle.reply_model.specs.Replies.{get_nobody, get_text, get_nothing}
use Rattle.reply_model.specs.Replies.{ring_far, ring_too_big, ring_too_many, ring_told}
use Rattle.reply_model.specs.Replies.{count_far, count_too_big, count_told}
use Rattle.reply_model.specs.Texts.{IsWritten, IsLastText, IsBlank}
use Rattle.reply_model.specs.Sizes.{IsTooBig, IsFirstTooBig, AreCounted}
use Rattle.reply_laws.specs.Laws.{SayTheSame}

pub the_other_way :
    {kinds : List TileKind} {r s : Reading} → SayTheSame kinds r s → SayTheSame kinds s r
the_other_way t = record {
  places = λ k lt u p. ((t.places k lt u p).1, (t.places k lt u p).0);
  tiles = λ u w. ((t.tiles u w).1, (t.tiles u w).0);
  distances = λ u w n. ((t.distances u w n).1, (t.distances u w n).0);
  sizes = λ d n. ((t.sizes d n).1, (t.sizes d n).0);
}

-- From side 0 of the root of kind k each walk leads to a side of one of the kinds.
abbrev pub EndsAreKnown : List TileKind → ℕ → Type 0
EndsAreKnown kinds k = (u : List Letter) → (end_type kinds k u).0 < length kinds

far_alike :
    {kinds : List TileKind} {r s : Reading} → SayTheSame kinds r s → (u w : List Letter) →
    AreFar r u w → AreFar s u w
far_alike t u w f = record {
  distance = f.distance;
  apart = (t.distances u w f.distance).0 f.apart;
  far = f.far;
}

pub passes_alike :
    {kinds : List TileKind} {r s : Reading} → SayTheSame kinds r s →
    (home before walk : List Letter) → PassesFar r home before walk → PassesFar s home before walk
passes_alike t home before walk d = record {
  prefix = d.prefix;
  rest = d.rest;
  split = d.split;
  far = far_alike t home (before ++ d.prefix) d.far;
}

written_alike :
    {kinds : List TileKind} {r s : Reading} → SayTheSame kinds r s → (h : History)
    (u : List Letter) (before : History) (text : List ℕ) → IsWritten r h u before text →
    IsWritten s h u before text
written_alike t h u before text x = record {
  walker = x.walker;
  rest = x.rest;
  split = x.split;
  there = (t.tiles (walk_of before x.walker) u).0 x.there;
}

pub last_alike :
    {kinds : List TileKind} {r s : Reading} → SayTheSame kinds r s → (h : History)
    (u : List Letter) (text : List ℕ) → IsLastText r h u text → IsLastText s h u text
last_alike t h u text l = record {
  before = l.before;
  written = written_alike t h u l.before text l.written;
  last = λ moment other x. l.last moment other (written_alike (the_other_way t) h u moment other x);
}

pub blank_alike :
    {kinds : List TileKind} {r s : Reading} → SayTheSame kinds r s → (h : History)
    (u : List Letter) → IsBlank r h u → IsBlank s h u
blank_alike t h u blank before text x =
    blank before text (written_alike (the_other_way t) h u before text x)

big_alike :
    {kinds : List TileKind} {r s : Reading} → SayTheSame kinds r s → (d : ℕ) → IsTooBig r d →
    IsTooBig s d
big_alike t d b = record { size = b.size; away = (t.sizes d b.size).0 b.away; big = b.big }

first_big_alike :
    {kinds : List TileKind} {r s : Reading} → SayTheSame kinds r s → (d q : ℕ) →
    IsFirstTooBig r d q → IsFirstTooBig s d q
first_big_alike t d q b = record {
  within = b.within;
  big = big_alike t q b.big;
  first = λ e lt g. b.first e lt (big_alike (the_other_way t) e g);
}

counted_alike :
    {kinds : List TileKind} {r s : Reading} → SayTheSame kinds r s → (d n : ℕ) →
    AreCounted r d n → AreCounted s d n
counted_alike t d n c = record {
  none_big = λ q le b. c.none_big q le (big_alike (the_other_way t) q b);
  away = (t.sizes d n).0 c.away;
}

module _ (kinds : List TileKind) (k : ℕ) (ends : EndsAreKnown kinds k) where
  path_alike :
      {r s : Reading} → SayTheSame kinds r s → (u w : List Letter) →
      TreePathPassesFar r k u w → TreePathPassesFar s k u w
  path_alike t u w f = record {
    place = f.place;
    placed = (t.places k (ends []) w f.place).0 f.placed;
    passes = passes_alike t u [] (word f.place.name) f.passes;
  }

  module _ {r s : Reading} (t : SayTheSame kinds r s) where
    back : SayTheSame kinds s r
    back = the_other_way t

    pub read_again :
        (h : History) {c : Command} {x : Reply} → IsReply kinds k r h c x → IsReply kinds k s h c x
    read_again h (new_taken w e) = new_taken w e
    read_again h (new_made w n) = new_made w n
    read_again h (go_nobody w u n) = go_nobody w u n
    read_again h (go_deep w u e d) = go_deep w u e (passes_alike t [] (walk_of h w) u d)
    read_again h (go_gone w u e n) = go_gone w u e (λ d. n (passes_alike back [] (walk_of h w) u d))
    read_again h (at_nobody w n) = at_nobody w n
    read_again h (at_place w p e l) = at_place w p e ((t.places k (ends []) (walk_of h w) p).0 l)
    read_again h (same_nobody w v n) = same_nobody w v n
    read_again h (same_tile w v e d j) = same_tile w v e d ((t.tiles (walk_of h w) (walk_of h v)).0 j)
    read_again h (other_tile w v e d n) =
        other_tile w v e d (λ j. n ((t.tiles (walk_of h w) (walk_of h v)).1 j))
    read_again h (level_nobody w n) = level_nobody w n
    read_again h (level_told w n e a) = level_told w n e ((t.distances [] (walk_of h w) n).0 a)
    read_again h (dist_nobody w v n) = dist_nobody w v n
    read_again h (dist_deep w v e d f) =
        dist_deep w v e d (path_alike t (walk_of h w) (walk_of h v) f)
    read_again h (dist_told w v n e d m a) =
        dist_told w v n e d (λ f. m (path_alike back (walk_of h w) (walk_of h v) f))
        ((t.distances (walk_of h w) (walk_of h v) n).0 a)
    read_again h (path_nobody w v n) = path_nobody w v n
    read_again h (path_deep w v e d f) =
        path_deep w v e d (path_alike t (walk_of h w) (walk_of h v) f)
    read_again h (path_told w v p e d m l) =
        path_told w v p e d (λ f. m (path_alike back (walk_of h w) (walk_of h v) f))
        ((t.places (end_type kinds k (walk_of h w)).0 (ends (walk_of h w))
        (way_between kinds k (walk_of h w) (walk_of h v)) p).0 l)
    read_again h (put_nobody w text n) = put_nobody w text n
    read_again h (put_long w text e l) = put_long w text e l
    read_again h (put_written w text e l) = put_written w text e l
    read_again h (get_nobody w n) = get_nobody w n
    read_again h (get_text w text e l) = get_text w text e (last_alike t h (walk_of h w) text l)
    read_again h (get_nothing w e b) = get_nothing w e (blank_alike t h (walk_of h w) b)
    read_again h (ring_far d l) = ring_far d l
    read_again h (ring_too_big d q l b) = ring_too_big d q l (first_big_alike t d q b)
    read_again h (ring_too_many d n l c m) = ring_too_many d n l (counted_alike t d n c) m
    read_again h (ring_told d n l c m) = ring_told d n l (counted_alike t d n c) m
    read_again h (count_far d l) = count_far d l
    read_again h (count_too_big d q l b) = count_too_big d q l (first_big_alike t d q b)
    read_again h (count_told d n l c) = count_told d n l (counted_alike t d n c)
