-- The draft that a text gives.
use Rattle.std.proofs.Common.{ℕ, ◌<◌, ◌≤◌, List, [], ◌∷◌, length, sym, refl, subst, arith}
use Rattle.terms.specs.Answers.{Answer, gives, refuses}
use Rattle.points.specs.declared.classes.Point.{Point}
use Rattle.treetext.specs.Text.{DraftRead, LinesRead, TextRead}
use Rattle.treetext.proofs.Once.{reads_once}
use Rattle.treetext.proofs.Writing.{reads_back}

-- since a text reads in one way only, its answer is the one that reading it gave
draft_read : (text : List ℕ) (a : Answer (List Point)) → TextRead text a → DraftRead text a
draft_read text a read =
    record {
      read = read;
      only = λ b other. reads_once text b a other read;
      back = λ ps placed limited e.
          reads_once text a (gives ps) read (subst (λ (xs : List ℕ). TextRead xs (gives ps)) (sym e) (reads_back ps placed limited));
    }

pub read_within : (text : List ℕ) (a : Answer (List Point)) → length text ≤ 4096 → LinesRead text a → DraftRead text a
read_within text a short lines = draft_read text a ((λ long. absurd (omega (arith, long))), (λ _. lines))

pub read_beyond : (text : List ℕ) → 4096 < length text → DraftRead text (refuses 19 (0 ∷ []))
read_beyond text long = draft_read text _ ((λ _. refl), (λ short. absurd (omega (arith, long, short))))
