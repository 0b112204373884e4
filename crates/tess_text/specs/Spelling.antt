-- Which kinds a file spells, and why a file is refused.
use Rattle.std.specs.Prelude.{◌≡◌, ℕ, ◌<◌, List, length, map, ⊤}
use Rattle.std.specs.declared.option.Option.TheVariants.{Some}
use Rattle.tile_model.specs.Tessellations.{TileKind}
use Rattle.tile_model.specs.declared.fault.KindFault.{KindFault}
use Rattle.tile_model.specs.Faults.{IsFault}
use Rattle.handed_kinds.specs.Handed.{HandedKind, handed_at, IsSide as IsSideOf, partner_at, valence_at}
use Rattle.handed_kinds.specs.HandedFaults.{IsHandedFault}
use Rattle.handed_kinds.specs.Expansion.{expanded}
use Rattle.tess_text.specs.declared.fault.TessFault.{TessFault}
use Rattle.tess_text.specs.declared.fault.TessFault.TheVariants.{Line, Kinds, Memory}
use Rattle.tess_text.specs.declared.entry.Entry.{Entry}
use Rattle.tess_text.specs.declared.version.Version.{Version}
use Rattle.tess_text.specs.declared.version.Version.TheVariants.{One, Two}
use Rattle.tess_text.specs.FileLines.{word_lines}
use Rattle.tess_text.specs.Grammar.{entries, shapes, partner, valence, version_of, IsInGrammar, IsFirstBadLine}

-- The entries spell these kinds, whose joins have marks: their kind lines give the sides and the
-- repeats in order, and each side has the partner, the mark and the valence that they give it.
pub record Spells (es : List Entry) (said : List HandedKind) : Type 0 where
  pub shapes : map (λ (kind : HandedKind). (kind.sides, kind.repeat)) said ≡ shapes es
  pub partners : (k : ℕ) → k < length said
      → length (handed_at said k).partner ≡ (handed_at said k).repeat
  pub valences : (k : ℕ) → k < length said
      → length (handed_at said k).valence ≡ (handed_at said k).repeat
  pub joined : (d : ℕ × ℕ) → IsSideOf said d → partner es d ≡ Some (partner_at said d)
  pub given : (d : ℕ × ℕ) → IsSideOf said d → valence es d ≡ Some (valence_at said d)

-- the plain kind that the lines of a file of version 1 say, none of whose joins is marked
abbrev pub plain : HandedKind → TileKind
plain kind =
    record {
      sides = kind.sides;
      repeat = kind.repeat;
      partner = map (λ q. (q.0, q.1)) kind.partner;
      valence = kind.valence;
    }

-- the kinds of the tessellation: those of the file in version 1, their expansion in version 2
abbrev pub kinds_of : Version → List HandedKind → List TileKind
kinds_of One said = map plain said
kinds_of Two said = expanded said

-- The kinds of the file are no tessellation, with this fault, whose kind and residue are those of
-- the file.
abbrev pub IsFaultIn : Version → List HandedKind → KindFault → Type 0
IsFaultIn One said fault = IsFault (map plain said) fault
IsFaultIn Two said fault = IsHandedFault said fault

-- the file is in the grammar, and what its lines say spells these kinds
pub record Says (bytes : List ℕ) (version : Version) (said : List HandedKind) : Type 0 where
  pub grammar : IsInGrammar bytes
  pub head : version ≡ version_of (word_lines bytes)
  pub spells : Spells (entries (word_lines bytes)) said

-- the file is a spelling of these kinds: it is in the grammar, and they are the kinds of the
-- tessellation that its lines say
pub record IsSpelling (bytes : List ℕ) (kinds : List TileKind) : Type 0 where
  pub version : Version
  pub said : List HandedKind
  pub says : Says bytes version said
  pub value : kinds ≡ kinds_of version said

-- the kinds that the file spells are no tessellation, with this fault
pub record IsRefused (bytes : List ℕ) (fault : KindFault) : Type 0 where
  pub version : Version
  pub said : List HandedKind
  pub says : Says bytes version said
  pub refused : IsFaultIn version said fault

-- why a file is refused: its first bad line, or the fault of the kinds that it spells; want of
-- memory says nothing of the file
abbrev pub IsFaultOf : List ℕ → TessFault → Type 0
IsFaultOf bytes (Line n) = IsFirstBadLine bytes n
IsFaultOf bytes (Kinds fault) = IsRefused bytes fault
IsFaultOf bytes Memory = ⊤

-- why the kinds that a file says are no tessellation, or that memory ran out
abbrev pub IsFaultFor : Version → List HandedKind → TessFault → Type 0
IsFaultFor version said (Line n) = ⊥
IsFaultFor version said (Kinds fault) = IsFaultIn version said fault
IsFaultFor version said Memory = ⊤
