-- A first fault stands whatever follows.
use Rattle.std.proofs.Common.{◌≡◌, ◌<◌, ◌+◌, ℕ, Bool, true, false, cond, List, [], ◌∷◌, ◌++◌, length, Option, Some, None, Result, Ok, Err, if◌then◌else◌, refl, sym, ◌∙◌, ap, arith, add-zero}
use Rattle.std.specs.List.{onto_first}
use Rattle.fm_mono.specs.declared.order.Order.{Order}
use Rattle.fm_words.specs.declared.mark.Mark.TheVariants.{Feed}
use Rattle.fm_words.specs.Parts.{Bytes, is_mark, parts}
use Rattle.fm_words.specs.Lines.{NumberedLine, without_return, is_passed, numbered, lines_of, end_of}
use Rattle.fm_words.proofs.Cuts.{first_of_parts}
use Rattle.fm_problem.specs.declared.fault_kind.FaultKind.TheVariants.{Syntax}
use Rattle.fm_problem.specs.declared.problem.Problem.{Problem}
use Rattle.fm_problem.specs.Faults.{Fault}
use Rattle.fm_problem.specs.Problems.{ring_of, order_in, with_order, at_line, plus_line, after_second, after_ring, from_lines, problem_of}
use Rattle.fm_problem.specs.Statements.{statement_of}
use Rattle.fm_words.specs.Steps.{◌>>=◌, steps}
use Rattle.fm_words.proofs.FirstFaults.{no_fault}

-- ---- a text that goes on after a mark
onto_parts : (x : ℕ) (ps qs : List Bytes) → (q : Bytes) × (rest : List Bytes) × (ps ≡ q ∷ rest) → onto_first x (ps ++ qs) ≡ onto_first x ps ++ qs
onto_parts x ps qs h = ap (λ v. onto_first x (v ++ qs)) h.2 ∙ sym (ap (λ v. onto_first x v ++ qs) h.2)

one_more_byte : (x : ℕ) (here : Bool) (ps qs : List Bytes) → (q : Bytes) × (rest : List Bytes) × (ps ≡ q ∷ rest)
    → cond here ([] ∷ (ps ++ qs)) (onto_first x (ps ++ qs)) ≡ cond here ([] ∷ ps) (onto_first x ps) ++ qs
one_more_byte x true ps qs h = refl
one_more_byte x false ps qs h = onto_parts x ps qs h

parts_further : (front back : Bytes) → parts Feed (front ++ 10 ∷ back) ≡ parts Feed front ++ parts Feed back
parts_further [] back = refl
parts_further (x ∷ front) back =
    ap (λ v. cond (is_mark Feed x) ([] ∷ v) (onto_first x v)) (parts_further front back)
    ∙ one_more_byte x (is_mark Feed x) (parts Feed front) (parts Feed back) (first_of_parts Feed front)

-- ---- lines
chosen : (passed : Bool) (l : NumberedLine) (xs ys : List NumberedLine) → (if passed then (xs ++ ys) else (l ∷ (xs ++ ys))) ≡ (if passed then xs else (l ∷ xs)) ++ ys
chosen true l xs ys = refl
chosen false l xs ys = refl

numbered_further : (n : ℕ) (ls ks : List Bytes) → numbered n (ls ++ ks) ≡ numbered n ls ++ numbered (n + length ls) ks
numbered_further n [] ks = ap (λ m. numbered m ks) (sym (add-zero n))
numbered_further n (l ∷ ls) ks =
    let there : numbered (n + 1) (ls ++ ks) ≡ numbered (n + 1) ls ++ numbered (n + length (l ∷ ls)) ks =
    numbered_further (n + 1) ls ks ∙ ap (λ m. numbered (n + 1) ls ++ numbered m ks) (omega arith) in
    ap (λ v. if is_passed (without_return l) then v else (record { number = n; text = without_return l } ∷ v)) there
    ∙ chosen (is_passed (without_return l)) (record { number = n; text = without_return l }) (numbered (n + 1) ls) (numbered (n + length (l ∷ ls)) ks)

lines_further : (front back : Bytes) → lines_of (front ++ 10 ∷ back) ≡ lines_of front ++ numbered (1 + length (parts Feed front)) (parts Feed back)
lines_further front back = ap (numbered 1) (parts_further front back) ∙ numbered_further 1 (parts Feed front) (parts Feed back)

-- ---- faults
after_step : {S X F : Type 0} (f : S → X → Result S F) (xs ys : List X) (e : F) → ((t : S) → steps f t xs ≡ Err e → steps f t (xs ++ ys) ≡ Err e)
    → (r : Result S F) → r >>= (λ t. steps f t xs) ≡ Err e → r >>= (λ t. steps f t (xs ++ ys)) ≡ Err e
after_step f xs ys e rest (Ok t) h = rest t h
after_step f xs ys e rest (Err k) h = h

steps_fault : {S X F : Type 0} (f : S → X → Result S F) (s : S) (xs ys : List X) (e : F) → steps f s xs ≡ Err e → steps f s (xs ++ ys) ≡ Err e
steps_fault f s [] ys e h = absurd (no_fault e s (sym h))
steps_fault f s (x ∷ xs) ys e h = after_step f xs ys e (λ t. steps_fault f t xs ys e) (f s x) h

second_fault : (o : Option Order) (q : Problem) (l : NumberedLine) (ls ks : List NumberedLine) (f : Fault) → after_second o q l ls ≡ Err f → after_second o q l (ls ++ ks) ≡ Err f
second_fault None q l ls ks f h = steps_fault plus_line q (l ∷ ls) ks f h
second_fault (Some o) q l ls ks f h = steps_fault plus_line (with_order o q) ls ks f h

ring_fault : (q : Problem) (ls ks : List NumberedLine) (f : Fault) → after_ring q ls ≡ Err f → after_ring q (ls ++ ks) ≡ Err f
ring_fault q [] ks f h = absurd (no_fault f q (sym h))
ring_fault q (l ∷ ls) ks f h = second_fault (order_in (statement_of l.text)) q l ls ks f h

begun_fault : (r : Result Problem Fault) (ls ks : List NumberedLine) (f : Fault) → r >>= (λ q. after_ring q ls) ≡ Err f → r >>= (λ q. after_ring q (ls ++ ks)) ≡ Err f
begun_fault (Ok q) ls ks f h = ring_fault q ls ks f h
begun_fault (Err k) ls ks f h = h

same_line : (f g : Fault) → ◌≡◌ {A = Result Problem Fault} (Err f) (Err g) → f.line ≡ g.line
same_line f g e = cc

lines_fault : (end later : ℕ) (ls ks : List NumberedLine) (f : Fault) → from_lines end ls ≡ Err f → f.line < end → from_lines later (ls ++ ks) ≡ Err f
lines_fault end later [] ks f h below = let same = same_line (record { line = end; kind = Syntax }) f h in absurd (omega (arith, same, below))
lines_fault end later (l ∷ ls) ks f h below = begun_fault (at_line l.number (ring_of (statement_of l.text))) ls ks f h

pub fault_stands : (front back : Bytes) (f : Fault) → problem_of front ≡ Err f → f.line < end_of front → problem_of (front ++ 10 ∷ back) ≡ Err f
unfolding problem_of
fault_stands front back f h below =
    ap (from_lines (end_of (front ++ 10 ∷ back))) (lines_further front back)
    ∙ lines_fault (end_of front) (end_of (front ++ 10 ∷ back)) (lines_of front) (numbered (1 + length (parts Feed front)) (parts Feed back)) f h below
