-- The sample: a source from a number. Each of its characters is ASCII, so that it is its own bytes.
use Rattle.std.specs.Prelude.{ℕ, zero, suc, ◌+◌, ◌%◌, ◌==◌, List, [], ◌++◌, codes, decimal, if◌then◌else◌}

-- a function with clauses and bindings
unfoldable pub function : ℕ → List ℕ
function k =
    codes "(define (f" ++ (decimal k ++ (codes " x y) (cond [(< x " ++ (decimal k ++ (codes ") (g" ++
    (decimal k ++ (codes " x y)] [else (let ([z (+ x " ++ (decimal k ++ codes ")]) (h z y))]))\n")))))))

-- a comment on a line, and a quoted list of three numbers
unfoldable pub quotation : ℕ → List ℕ
quotation k =
    codes "; note " ++ (decimal k ++ (codes "\n(define t" ++ (decimal k ++ (codes " '(" ++ (decimal k ++
    (codes " " ++ (decimal (k + 1) ++ (codes " " ++ (decimal (k + 2) ++ codes "))\n")))))))))

-- a structure of three fields
unfoldable pub structure : ℕ → List ℕ
structure k =
    codes "(struct s" ++ (decimal k ++ codes " (a b c) #:transparent)\n")

-- a loop over a range
unfoldable pub loop_over : ℕ → List ℕ
loop_over k =
    codes "(for ([i (in-range " ++ (decimal k ++ (codes ")]) (displayln (list i " ++ (decimal k ++
    codes ")))\n")))

-- the form of number k: the four take turns
unfoldable pub form : ℕ → List ℕ
form k =
    if k % 4 == 0 then function k
    else if k % 4 == 1 then quotation k
    else if k % 4 == 2 then structure k
    else loop_over k

-- so many forms from number k on, each behind an empty line
unfoldable pub forms_from : ℕ → ℕ → List ℕ
forms_from k zero = []
forms_from k (suc n) = codes "\n" ++ (form k ++ forms_from (k + 1) n)

-- the source of n forms: a language line, and the forms from number 0 on
unfoldable pub sample : ℕ → List ℕ
sample n = codes "#lang racket/base\n" ++ forms_from 0 n
