-- The records of the worked cases.
use Rattle.std.proofs.Common.{leb-true, slice_index_or, ◌≡◌, ℕ, Some, None, Ok, Err, Result, length, take, drop, ap, ◌∙◌, ◌<◌, ◌≤◌, List, [], ◌∷◌, ◌++◌, map, ℤ, pos, negsuc, codes, refl, true≢false, arith}
use Rattle.std.proofs.lemmas.Bool.{ltb-true}
use Rattle.tables.specs.Refusals.{number}
use Rattle.tables.specs.declared.refusal.Refusal.TheVariants.{Unfit, Layout, Rule}
use Rattle.worth.specs.Money.{money}
use Rattle.worth.specs.Weeks.{weeks}
use Rattle.worth.specs.Lexicographic.{pile}
use Rattle.book.specs.Allotments.{Allotment, Allowed}
use Rattle.book.specs.Books.{Book, Sound}
use Rattle.layout.specs.Records.{by_money, by_money_then_weeks, Contents, allotted, contents_of}
use Rattle.layout.specs.Runs.{Reads}
use Rattle.record.specs.Checks.{total_by, result_of}
use Rattle.record.specs.Evidence.{amount, amount_and_weeks, network_of, LevelsFit}
use Rattle.record.specs.declared.passed.Total.{Total}
use Rattle.record.specs.declared.passed.OfferResult.{OfferResult}
use Rattle.book.specs.Rows.{map_with}
use Rattle.round.specs.Rounds.{fresh}
use Rattle.cases.specs.Calls.{stopped}
use Rattle.cases.specs.Texts.{RecordOf, Passing, Failing}
use Rattle.cases.specs.Chain.{money_text, chain_levels, raised_levels, levels_with_79, cash_text, weeks_text}
use Rattle.cases.specs.Market.{market_text}
use Rattle.cases.specs.Cases.{empty_text}
use Rattle.std.proofs.lemmas.Option.{none-some}
use Rattle.std.proofs.ByRecursion.{All-weaker}
use Rattle.std.specs.List.{AllByRecursion}
use Rattle.tables.specs.Refusals.{Row, when, First}
use Rattle.tables.specs.declared.refusal.Refusal.{Refusal}
use Rattle.book.specs.Books.{Any}
use Rattle.layout.specs.Records.{level_size, FairLevel}
use Rattle.layout.proofs.Lines.{answer_once}
use Rattle.layout.proofs.Recorded.{all_recorded}
use Rattle.record.specs.Files.{Files}
use Rattle.cases.specs.Texts.{Filing}
use Rattle.cases.specs.Chain.{filed_levels, threes, money_lines, cut_text}
use Rattle.cases.proofs.Cuts.{lacking}
use Rattle.cases.proofs.Building.{first_none, no_any}
use Rattle.cases.proofs.Records.{fair_levels}
use Rattle.cases.proofs.Records.{refused_with, record_of, passing, failing_with, all, reading, allowed_by, fitted}
use Rattle.cases.proofs.Rounds.{sound, held, two, chain_book, chain_run, cash_run, market_book, market_run}

-- levels by money
abbrev levels : List ℤ → List (List ℤ)
levels zs = map (λ z. z ∷ []) zs

-- the empty round

abbrev empty : Contents
empty = contents_of by_money fresh (all 0) (levels (pos 0 ∷ []))

empty_reads : Reads empty_text empty
empty_reads = reading empty_text by_money fresh (all 0) (levels (pos 0 ∷ [])) (sound stopped) refl refl refl refl

pub empty_is : RecordOf empty_text by_money fresh
empty_is = record_of empty_text empty empty_reads

pub empty_passes : (worth : Total) → total_by by_money fresh (allotted empty) ≡ worth → Passing empty_text worth []
empty_passes worth is = passing empty_text empty worth [] empty_reads (allowed_by fresh (allotted empty) (sound stopped) refl refl) (fitted money (network_of empty) (map amount empty.levels) refl refl refl) is refl

-- the chain round by money

abbrev book : Book
book = chain_book two 160

book_sound : Sound book
book_sound = sound (chain_run 160 refl)

abbrev chain : ℕ → List ℤ → Contents
chain units zs = contents_of by_money book (all units) (levels zs)

abbrev fitting : List ℤ
fitting = pos 0 ∷ pos 100 ∷ pos 160 ∷ pos 100 ∷ pos 160 ∷ pos 0 ∷ pos 0 ∷ pos 10 ∷ negsuc 79 ∷ pos 0 ∷ pos 0 ∷ []

threes_allowed : (zs : List ℤ) → Allowed book (allotted (chain 3 zs))
threes_allowed zs = allowed_by book (allotted (chain 3 zs)) book_sound refl refl

chain_reads : Reads (money_text (codes "3") chain_levels) (chain 3 fitting)
chain_reads = reading (money_text (codes "3") chain_levels) by_money book (all 3) (levels fitting) book_sound refl refl refl refl

pub chain_is : RecordOf (money_text (codes "3") chain_levels) by_money book
chain_is = record_of (money_text (codes "3") chain_levels) (chain 3 fitting) chain_reads

pub chain_passes : (worth : Total) (offers : List OfferResult) → total_by by_money book (allotted (chain 3 fitting)) ≡ worth → map_with result_of book.offers (allotted (chain 3 fitting)) ≡ offers → Passing (money_text (codes "3") chain_levels) worth offers
chain_passes worth offers is are = passing (money_text (codes "3") chain_levels) (chain 3 fitting) worth offers chain_reads (threes_allowed fitting) (fitted money (network_of (chain 3 fitting)) (map amount (levels fitting)) refl refl refl) is are

-- filed

abbrev page_rows : List ℕ → List Row
page_rows page = when 3 (Any (λ z. 1000000 < level_size z) filed_levels) ∷ when 10 (11 < 11) ∷ when 12 (length page < 198) ∷ []

no_row : (page : List ℕ) → 198 ≤ length page → First (page_rows page) None
no_row page h = first_none (page_rows page) (no_any (λ z. 1000000 < level_size z) filed_levels small, ((λ l. omega arith), ((λ l. omega arith), tt)))
  where
    small : AllByRecursion (λ z. 1000000 < level_size z → ⊥) filed_levels
    small = All-weaker (FairLevel by_money) (λ z. 1000000 < level_size z → ⊥) (λ z f l. omega (arith, f.1, l)) filed_levels (fair_levels by_money filed_levels refl)

pub chain_filed : (n : ℕ) → length (money_text (codes "3") chain_levels) ≡ n → Filing (money_text (codes "3") chain_levels) by_money book threes filed_levels n
chain_filed n is = record {
  some = λ page h. (money_text (codes "3") chain_levels ++ drop 198 page, Ok 198, record { refused = no_row page h; outcome = record { length = refl; page = refl; reads = chain_reads; book = refl; allotment = (all_recorded by_money book threes filed_levels).allotment } });
  every = every;
}
  where
    every : (page after : List ℕ) (r : Result ℕ Refusal) → 198 ≤ length page → Files by_money book threes filed_levels page after r → (r ≡ Ok n) × (after ≡ money_text (codes "3") chain_levels ++ drop n page)
    every page after (Ok m) h f = let e : m ≡ n = f.outcome.length ∙ is in (ap Ok e, f.outcome.page ∙ ap (λ k. money_text (codes "3") chain_levels ++ drop k page) e)
    every page after (Err e) h f = absurd (none-some (number e) (answer_once (page_rows page) None (Some (number e)) (no_row page h) f.refused))

-- with all levels 7 higher

abbrev raised : List ℤ
raised = pos 7 ∷ pos 107 ∷ pos 167 ∷ pos 107 ∷ pos 167 ∷ pos 7 ∷ pos 7 ∷ pos 17 ∷ negsuc 72 ∷ pos 7 ∷ pos 7 ∷ []

raised_reads : Reads (money_text (codes "3") raised_levels) (chain 3 raised)
raised_reads = reading (money_text (codes "3") raised_levels) by_money book (all 3) (levels raised) book_sound refl refl refl refl

pub raised_passes : (worth : Total) (offers : List OfferResult) → total_by by_money book (allotted (chain 3 raised)) ≡ worth → map_with result_of book.offers (allotted (chain 3 raised)) ≡ offers → Passing (money_text (codes "3") raised_levels) worth offers
raised_passes worth offers is are = passing (money_text (codes "3") raised_levels) (chain 3 raised) worth offers raised_reads (threes_allowed raised) (fitted money (network_of (chain 3 raised)) (map amount (levels raised)) refl refl refl) is are

-- with one level changed: the get line of offer 1 has capacity left, and brings more than the level of its item

abbrev changed : List ℤ
changed = pos 0 ∷ pos 100 ∷ pos 160 ∷ pos 100 ∷ pos 160 ∷ pos 0 ∷ pos 0 ∷ pos 10 ∷ negsuc 78 ∷ pos 0 ∷ pos 0 ∷ []

changed_misfit : LevelsFit by_money (network_of (chain 3 changed)) (levels changed) → ⊥
changed_misfit f = true≢false ((f.fits 7 (ltb-true 7 11 refl)).0 (ltb-true 3 4 refl))

changed_reads : Reads (money_text (codes "3") levels_with_79) (chain 3 changed)
changed_reads = reading (money_text (codes "3") levels_with_79) by_money book (all 3) (levels changed) book_sound refl refl refl refl

pub changed_fails : (n : ℕ) → number Unfit ≡ n → Failing (money_text (codes "3") levels_with_79) n 0
changed_fails n is = failing_with (money_text (codes "3") levels_with_79) (chain 3 changed) Unfit n changed_reads ((λ h. absurd (h (threes_allowed changed))), λ _. ((λ _. refl), λ h. absurd (h changed_misfit))) is

-- with 2 units on each line: offer 1 has some of its limit left

twos_misfit : LevelsFit by_money (network_of (chain 2 fitting)) (levels fitting) → ⊥
twos_misfit f = true≢false ((f.fits 6 (ltb-true 6 11 refl)).0 (ltb-true 2 3 refl))

twos_allowed : Allowed book (allotted (chain 2 fitting))
twos_allowed = allowed_by book (allotted (chain 2 fitting)) book_sound refl refl

twos_read : Reads (money_text (codes "2") chain_levels) (chain 2 fitting)
twos_read = reading (money_text (codes "2") chain_levels) by_money book (all 2) (levels fitting) book_sound refl refl refl refl

pub twos_fail : (n : ℕ) → number Unfit ≡ n → Failing (money_text (codes "2") chain_levels) n 0
twos_fail n is = failing_with (money_text (codes "2") chain_levels) (chain 2 fitting) Unfit n twos_read ((λ h. absurd (h twos_allowed)), λ _. ((λ _. refl), λ h. absurd (h twos_misfit))) is

-- with 4 units on each line: offer 1 has limit 3

fours_forbidden : Allowed book (allotted (chain 4 fitting)) → ⊥
fours_forbidden h = let x : 4 ≤ 3 = h.limits.1.0 in omega arith

fours_read : Reads (money_text (codes "4") chain_levels) (chain 4 fitting)
fours_read = reading (money_text (codes "4") chain_levels) by_money book (all 4) (levels fitting) book_sound refl refl refl refl

pub fours_fail : (n : ℕ) → number Rule ≡ n → Failing (money_text (codes "4") chain_levels) n 0
fours_fail n is = failing_with (money_text (codes "4") chain_levels) (chain 4 fitting) Rule n fours_read ((λ _. refl), λ h. absurd (h fours_forbidden)) is

-- without its last line

pub cut_fails : (n line : ℕ) → number Layout ≡ n → 35 ≡ line → Failing cut_text n line
cut_fails n line is at = refused_with cut_text Layout 35 n line (lacking (money_text (codes "3") chain_levels) (chain 3 fitting) chain_reads (take 34 (money_lines (codes "3") chain_levels)) (codes "0") refl refl (leb-true (length cut_text) 32768 refl)) is at

-- with cash held by member 2

abbrev cash_book : Book
cash_book = chain_book (two ++ held 2 0 2 ∷ []) 160

cash_sound : Sound cash_book
cash_sound = sound (cash_run 2 refl)

abbrev cash : Contents
cash = contents_of by_money cash_book (all 2) (levels (pos 0 ∷ pos 100 ∷ pos 70 ∷ pos 100 ∷ pos 70 ∷ negsuc 89 ∷ pos 0 ∷ pos 0 ∷ negsuc 79 ∷ negsuc 79 ∷ negsuc 89 ∷ negsuc 89 ∷ []))

cash_reads : Reads cash_text cash
cash_reads = reading cash_text by_money cash_book (all 2) cash.levels cash_sound refl refl refl refl

pub cash_is : RecordOf cash_text by_money cash_book
cash_is = record_of cash_text cash cash_reads

pub cash_passes : (worth : Total) (offers : List OfferResult) → total_by by_money cash_book (allotted cash) ≡ worth → map_with result_of cash_book.offers (allotted cash) ≡ offers → Passing cash_text worth offers
cash_passes worth offers is are = passing cash_text cash worth offers cash_reads (allowed_by cash_book (allotted cash) cash_sound refl refl) (fitted money (network_of cash) (map amount cash.levels) refl refl refl) is are

-- by money then weeks, with price 70

abbrev weeks_book : Book
weeks_book = chain_book two 70

weeks_sound : Sound weeks_book
weeks_sound = sound (chain_run 70 refl)

abbrev weekly : Contents
weekly = contents_of by_money_then_weeks weeks_book (all 3) ((pos 0 ∷ pos 0 ∷ []) ∷ (pos 100 ∷ pos 0 ∷ []) ∷ (pos 70 ∷ pos 1 ∷ []) ∷ (pos 100 ∷ pos 0 ∷ []) ∷ (pos 70 ∷ pos 1 ∷ []) ∷ (pos 0 ∷ pos 0 ∷ []) ∷ (pos 0 ∷ pos 0 ∷ []) ∷ (negsuc 79 ∷ pos 1 ∷ []) ∷ (negsuc 79 ∷ negsuc 0 ∷ []) ∷ (pos 0 ∷ pos 0 ∷ []) ∷ (pos 0 ∷ pos 0 ∷ []) ∷ [])

weeks_read : Reads weeks_text weekly
weeks_read = reading weeks_text by_money_then_weeks weeks_book (all 3) weekly.levels weeks_sound refl refl refl refl

pub weeks_is : RecordOf weeks_text by_money_then_weeks weeks_book
weeks_is = record_of weeks_text weekly weeks_read

pub weeks_pass : (worth : Total) (offers : List OfferResult) → total_by by_money_then_weeks weeks_book (allotted weekly) ≡ worth → map_with result_of weeks_book.offers (allotted weekly) ≡ offers → Passing weeks_text worth offers
weeks_pass worth offers is are = passing weeks_text weekly worth offers weeks_read (allowed_by weeks_book (allotted weekly) weeks_sound refl refl) (fitted (pile money weeks) (network_of weekly) (map amount_and_weeks weekly.levels) refl refl refl) is are

-- the example market

abbrev pub by_lists : List (List ℕ × List ℕ) → Allotment
by_lists us k = let u = slice_index_or us k ([], []) in record { give = λ t. slice_index_or u.0 t 0; get = λ t. slice_index_or u.1 t 0 }

abbrev traded : Allotment
traded = by_lists ((50 ∷ 0 ∷ [], 20 ∷ 30 ∷ []) ∷ (20 ∷ 10 ∷ [], 30 ∷ []) ∷ (10 ∷ 20 ∷ [], 30 ∷ 0 ∷ []) ∷ (20 ∷ [], 20 ∷ []) ∷ (20 ∷ [], 20 ∷ []) ∷ (40 ∷ [], 20 ∷ 20 ∷ []) ∷ [])

market_sound : Sound market_book
market_sound = sound market_run

abbrev traded_record : Contents
traded_record = contents_of by_money market_book traded (levels (pos 0 ∷ pos 100 ∷ pos 200 ∷ pos 250 ∷ pos 50 ∷ pos 100 ∷ pos 200 ∷ pos 250 ∷ pos 50 ∷ pos 50 ∷ pos 0 ∷ pos 0 ∷ pos 0 ∷ pos 0 ∷ negsuc 9 ∷ negsuc 9 ∷ pos 0 ∷ pos 0 ∷ negsuc 9 ∷ negsuc 9 ∷ negsuc 9 ∷ negsuc 9 ∷ []))

market_reads : Reads market_text traded_record
market_reads = reading market_text by_money market_book traded traded_record.levels market_sound refl refl refl refl

pub market_is : RecordOf market_text by_money market_book
market_is = record_of market_text traded_record market_reads

pub market_passes : (worth : Total) (offers : List OfferResult) → total_by by_money market_book (allotted traded_record) ≡ worth → map_with result_of market_book.offers (allotted traded_record) ≡ offers → Passing market_text worth offers
market_passes worth offers is are = passing market_text traded_record worth offers market_reads (allowed_by market_book (allotted traded_record) market_sound refl refl) (fitted money (network_of traded_record) (map amount traded_record.levels) refl refl refl) is are
