-- The record of the chain round with a cash holding of 0 units.
use Rattle.std.proofs.Common.{◌≡◌, List, [], ◌∷◌, ◌++◌, map, pos, negsuc, refl}
use Rattle.worth.specs.Money.{money}
use Rattle.book.specs.Books.{Book, Sound}
use Rattle.book.specs.Rows.{map_with}
use Rattle.layout.specs.Records.{by_money, Contents, allotted, contents_of}
use Rattle.layout.specs.Runs.{Reads}
use Rattle.record.specs.Checks.{total_by, result_of}
use Rattle.record.specs.Evidence.{amount, network_of}
use Rattle.record.specs.declared.passed.OfferResult.{OfferResult}
use Rattle.record.specs.declared.passed.Total.{Total}
use Rattle.cases.specs.Chain.{no_cash_text}
use Rattle.cases.specs.Texts.{RecordOf, Passing}
use Rattle.cases.proofs.Records.{record_of, passing, all, reading, allowed_by, fitted}
use Rattle.cases.proofs.Rounds.{sound, held, two, chain_book, cash_run}

abbrev book : Book
book = chain_book (two ++ held 2 0 0 ∷ []) 160

book_sound : Sound book
book_sound = sound (cash_run 0 refl)

abbrev contents : Contents
contents = contents_of by_money book (all 0) (map (λ z. z ∷ []) (pos 0 ∷ pos 100 ∷ pos 70 ∷ pos 100 ∷ pos 70 ∷ negsuc 89 ∷ pos 0 ∷ pos 0 ∷ negsuc 79 ∷ negsuc 79 ∷ negsuc 89 ∷ negsuc 89 ∷ []))

text_reads : Reads no_cash_text contents
text_reads = reading no_cash_text by_money book (all 0) contents.levels book_sound refl refl refl refl

pub no_cash_is : RecordOf no_cash_text by_money book
no_cash_is = record_of no_cash_text contents text_reads

pub no_cash_passes : (worth : Total) (offers : List OfferResult) → total_by by_money book (allotted contents) ≡ worth → map_with result_of book.offers (allotted contents) ≡ offers → Passing no_cash_text worth offers
no_cash_passes worth offers is are = passing no_cash_text contents worth offers text_reads (allowed_by book (allotted contents) book_sound refl refl) (fitted money (network_of contents) (map amount contents.levels) refl refl refl) is are
