-- Kinds of worth whose worths stand in records as levels.
use Rattle.std.specs.Prelude.{◌≡◌, ◌↔◌, List, map, ℤ}
use Rattle.worth.specs.Kinds.{Ops}
use Rattle.network.specs.Networks.{Net}
use Rattle.network.specs.Potentials.{Fitted}
use Rattle.book.specs.Books.{Book}
use Rattle.layout.specs.Records.{Kind, level_size}
use Rattle.reading.specs.Levels.{numbers}
use Rattle.reading.specs.declared.level.Level.{Level}
use Rattle.record.specs.Evidence.{LevelsFit}
use Rattle.record.specs.Sheets.{ClearedTo, ClearedToBy}

-- a worth and its level are of one size, a level comes back from its worth, worths fit a network exactly when their levels do, and what clear
-- comes to by worths it comes to by the kind
pub record Levelled {W : Type 0} (o : Ops W) (k : Kind) (level : W → Level) (worth : Level → W) : Type 0 where
  pub sized : (w : W) → level_size (numbers k (level w)) ≡ o.size w
  pub again : (l : Level) → numbers k (level (worth l)) ≡ numbers k l
  pub fitting : (n : Net) (ws : List W) → Fitted o n ws ↔ LevelsFit k n (map (λ w. numbers k (level w)) ws)
  pub cleared : (b : Book) (n : Net) (zs : List (List ℤ)) → ClearedTo o (λ w. numbers k (level w)) b n zs → ClearedToBy k b n zs
