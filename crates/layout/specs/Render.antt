-- The text of a record, and the earliest faulty line of one that is not.
use Rattle.std.specs.Prelude.{◌≡◌, ℕ, ◌+◌, ◌<◌, ◌≤◌, ◌⊎◌, ◌↔◌, List, [], ◌∷◌, ◌++◌, map, length}
use Rattle.std.specs.List.{AllByRecursion}
use Rattle.text.specs.Parts.{Free}
use Rattle.text.specs.declared.section.Section.{Section}
use Rattle.text.specs.declared.section.Section.TheVariants.{Kinds, Items, Members, Holdings, Offers, Levels}
use Rattle.layout.specs.Records.{Kind, words, parts, OfferWithUnits, Contents, Valid}
use Rattle.layout.specs.Layout.{Slot, head, item, member, holding, offer, give, get, level, HeadOfOffer, Says, spell}
use Rattle.layout.specs.Runs.{Reads, Refused}

-- byte 10 ends each line
abbrev pub ended : List (List ℕ) → List ℕ
ended [] = []
ended (l ∷ ls) = l ++ 10 ∷ ended ls

-- a section: its head, with the count, and a line for each entry
abbrev pub section : Section → (s : Slot) → List (Says s) → List (List ℕ)
section which s cs = spell (head which) (length cs) ∷ map (spell s) cs

abbrev pub head_of : OfferWithUnits → HeadOfOffer
head_of o = record { member = o.member; limit = o.limit; gives = length o.give; gets = length o.get }

-- each offer's head, and under it its lines
abbrev pub offers_lines : List OfferWithUnits → List (List ℕ)
offers_lines [] = []
offers_lines (o ∷ os) = spell offer (head_of o) ∷ (map (spell give) o.give ++ (map (spell get) o.get ++ offers_lines os))

-- the section of offers, and that of the kind
abbrev pub offers_section : List OfferWithUnits → List (List ℕ)
offers_section os = spell (head Offers) (length os) ∷ offers_lines os

abbrev pub kind_section : Kind → List (List ℕ)
kind_section k = spell (head Kinds) (parts k) ∷ words k

-- the lines of a record, section by section
abbrev pub lines_of : Contents → List (List ℕ)
lines_of x = kind_section x.kind ++ (section Items item x.items ++ (section Members member x.members ++ (section Holdings holding x.holdings ++ (offers_section x.offers ++ section Levels level x.levels))))

-- the text of the record with these contents
abbrev pub render : Contents → List ℕ
render x = ended (lines_of x)

-- a text reads as contents exactly when it is their record and they keep the rules
abbrev pub ReadsRecords : Type 0
ReadsRecords = (text : List ℕ) (x : Contents) → Reads text x ↔ (text ≡ render x) × Valid x

-- no two texts read alike
abbrev pub OneText : Type 0
OneText = (text other : List ℕ) (x : Contents) → Reads text x → Reads other x → text ≡ other

-- no record is longer than 15,000 bytes
abbrev pub AllShort : Type 0
AllShort = (x : Contents) → Valid x → length (render x) ≤ 15000

-- the earliest faulty line decides: what follows it plays no part, so each text with the same lines down to it has the same refusal, unless it is
-- too long (which gets line 0)
abbrev pub EarliestDecides : Type 0
EarliestDecides = (ls : List (List ℕ)) (rest other : List ℕ) (n line : ℕ) → AllByRecursion (Free 10) ls → Refused (ended ls ++ rest) n line → 0 < line → line ≤ length ls → length (ended ls ++ other) ≤ 32768 → Refused (ended ls ++ other) n line

-- no line above it is at fault: cut anywhere above its faulty line, a text lacks just its next line, or it is whole (where something followed the
-- last line)
abbrev pub CutBeforeFault : Type 0
CutBeforeFault = (ls : List (List ℕ)) (rest : List ℕ) (n line : ℕ) → AllByRecursion (Free 10) ls → Refused (ended ls ++ rest) n line → length ls < line → Refused (ended ls) 13 (length ls + 1) ⊎ ((x : Contents) × Reads (ended ls) x)
