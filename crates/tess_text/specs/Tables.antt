-- The reader's tables: of each kind what the lines so far have said of it.
use Rattle.std.specs.Prelude.{◌≡◌, Bool, ℕ, ◌<◌, if◌then◌else◌, List, length, map, replicate, slice_index_or, slice_set, Option, All, IsSome}
use Rattle.std.specs.declared.option.Option.TheVariants.{Some, None}
use Rattle.handed_kinds.specs.Handed.{HandedKind}
use Rattle.tess_text.specs.declared.entry.Entry.{Entry}
use Rattle.tess_text.specs.declared.version.Version.{Version}
use Rattle.tess_text.specs.Grammar.{entries, shapes, partner, valence, has_begun, version_of}

-- the shape of a kind, and for each residue its partner and its valence where they have been said
pub record Table : Type 0 where
  pub sides : ℕ
  pub repeat : ℕ
  pub partner : List (Option (ℕ × ℕ × Bool))
  pub valence : List (Option ℕ)

-- a kind of which nothing more than its shape has been said
abbrev pub blank : ℕ → ℕ → Table
blank sides repeat =
    record {
      sides = sides;
      repeat = repeat;
      partner = replicate repeat None;
      valence = replicate repeat None;
    }

abbrev pub table_at : List Table → ℕ → Table
table_at tables k = slice_index_or tables k (blank 0 0)

abbrev pub partner_at : List Table → ℕ × ℕ → Option (ℕ × ℕ × Bool)
partner_at tables d = slice_index_or (table_at tables d.0).partner d.1 None

abbrev pub valence_at : List Table → ℕ × ℕ → Option ℕ
valence_at tables d = slice_index_or (table_at tables d.0).valence d.1 None

-- there is a place for the partner of side d, and nothing stands there yet
pub record IsUnjoinedAt (tables : List Table) (d : ℕ × ℕ) : Type 0 where
  pub kind : d.0 < length tables
  pub residue : d.1 < length (table_at tables d.0).partner
  pub free : partner_at tables d ≡ None

-- there is a place for the valence of the corner at side d, and nothing stands there yet
pub record IsUngivenAt (tables : List Table) (d : ℕ × ℕ) : Type 0 where
  pub kind : d.0 < length tables
  pub residue : d.1 < length (table_at tables d.0).valence
  pub free : valence_at tables d ≡ None

abbrev pub put_partner : List Table → ℕ × ℕ → ℕ × ℕ × Bool → List Table
put_partner tables d e =
    slice_set tables d.0 (record (table_at tables d.0) {
      partner = slice_set (table_at tables d.0).partner d.1 (Some e);
    })

abbrev pub put_valence : List Table → ℕ × ℕ → ℕ → List Table
put_valence tables d v =
    slice_set tables d.0 (record (table_at tables d.0) {
      valence = slice_set (table_at tables d.0).valence d.1 (Some v);
    })

-- the tables hold what the entries say
pub record Hold (tables : List Table) (es : List Entry) : Type 0 where
  pub shapes : map (λ (t : Table). (t.sides, t.repeat)) tables ≡ shapes es
  pub partners : (k : ℕ) → k < length tables
      → length (table_at tables k).partner ≡ (table_at tables k).repeat
  pub valences : (k : ℕ) → k < length tables
      → length (table_at tables k).valence ≡ (table_at tables k).repeat
  pub joined : (d : ℕ × ℕ) → partner_at tables d ≡ partner es d
  pub given : (d : ℕ × ℕ) → valence_at tables d ≡ valence es d

-- the version of a file whose first line with words has come
abbrev pub begun_version : List (List (List ℕ)) → Option Version
begun_version lines = if has_begun lines then Some (version_of lines) else None

-- What the lines so far have said is read: the version, where the first line with words has come,
-- and tables that hold the rest.
pub record IsRead (version : Option Version) (tables : List Table)
    (lines : List (List (List ℕ))) : Type 0 where
  pub begun : version ≡ begun_version lines
  pub hold : Hold tables (entries lines)

-- nothing is missing
pub record IsFull (t : Table) : Type 0 where
  pub partners : All (λ p. IsSome p) t.partner
  pub valences : All (λ v. IsSome v) t.valence

-- the table of a kind of which all has been said
abbrev pub table_of : HandedKind → Table
table_of kind =
    record {
      sides = kind.sides;
      repeat = kind.repeat;
      partner = map (λ p. Some p) kind.partner;
      valence = map (λ v. Some v) kind.valence;
    }
