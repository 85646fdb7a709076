-- What the program prints.
use Rattle.std.specs.Prelude.{◌≡◌, ℕ, zero, suc, ◌≤◌, List, [], ◌∷◌, ◌++◌, length, ℤ, pos, Ok, Err, decimal, Result, nat_le, slice_index_or}
use Rattle.terms.specs.Answers.{Answer, gives, refuses, tested, ◌thereafter◌}
use Rattle.terms.specs.Figures.{mwh_text}
use Rattle.terms.specs.Refusals.{report_text, refusal_text}
use Rattle.terms.specs.Channels.{ordinal}
use Rattle.terms.specs.declared.channels.Channel.{Channel}
use Rattle.terms.specs.declared.channels.Channel.TheVariants.{C, G}
use Rattle.terms.specs.declared.refusals.Refusal.{Refusal}
use Rattle.points.specs.Classes.{letter_of}
use Rattle.points.specs.Points.{class_of}
use Rattle.points.specs.declared.classes.Class.{Class}
use Rattle.points.specs.declared.classes.Point.{Point}
use Rattle.topology.specs.Service.{built_in}
use Rattle.treetext.specs.Text.{TreeRead}
use Rattle.readings.specs.Hours.{hour_sum, hour_tests, slot}
use Rattle.books.specs.Books.{book_at, book_tests}

-- The tests of the book: at most 60,000 bytes, the book check, and the readings of hour 0 of n points.
abbrev pub first_hour : List ℕ → ℕ → Answer (Unit {0})
first_hour book n = tested (nat_le (length book) 60000) 6 [] (book_tests book) thereafter hour_tests (book_at book) n 0

-- the number of a point, its class and two figures in MWh, single-spaced, and a line feed
abbrev pub point_line : ℕ → Class → ℤ → ℤ → List ℕ
point_line p class c g = decimal p ++ (32 ∷ letter_of class ∷ 32 ∷ (mwh_text c ++ (32 ∷ (mwh_text g ++ (10 ∷ [])))))

-- the lines of the points 1 to k, which have these hour values on C and on G
abbrev pub lines_to : List Point → (ℕ → ℤ) → (ℕ → ℤ) → ℕ → List ℕ
lines_to ps c g zero = []
lines_to ps c g (suc k) = lines_to ps c g k ++ point_line (suc k) (class_of ps (suc k)) (c (suc k)) (g (suc k))

-- the hour value of a point in hour 0 of a book
abbrev pub in_book : List ℕ → Channel → ℕ → ℤ
in_book book d p = pos (hour_sum (book_at book) p d 0)

-- the hour value of a point that stands among lent numbers
abbrev pub standing : List ℤ → Channel → ℕ → ℤ
standing hours d p = slice_index_or hours (slot p (ordinal d)) (pos 0)

-- the hour values of n points that stand there are those of the book
abbrev pub HoursOf : List ℕ → ℕ → List ℤ → Type 0
HoursOf book n hours = (p : ℕ) (d : Channel) → 1 ≤ p → p ≤ n → standing hours d p ≡ in_book book d p

-- what is printed of the hour, or of a refusal
abbrev pub printed_hour : Answer (Unit {0}) → List Point → List ℕ → List ℕ
printed_hour (gives u) ps book = lines_to ps (in_book book C) (in_book book G) (length ps)
printed_hour (refuses n place) ps book = report_text n place ++ (10 ∷ [])

-- what is printed of a tree with these points, or of its refusal
abbrev pub printed : Result (Unit {0}) Refusal → List Point → List ℕ → List ℕ
printed (Ok u) ps book = printed_hour (first_hour book (length ps)) ps book
printed (Err e) ps book = refusal_text e ++ (10 ∷ [])

-- the bytes are what is printed of the tree that the text gives and of the book, or of a refusal
abbrev pub Listed : List ℕ → List ℕ → List ℕ → Type 0
Listed text book bytes =
    (r : Result (Unit {0}) Refusal) × (ps : List Point) × TreeRead text r built_in ps × (bytes ≡ printed r ps book)
