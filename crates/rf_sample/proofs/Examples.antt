-- Worked examples: a definition that changes its meaning fails here.
use Rattle.std.proofs.Common.{◌≡◌, length, codes, refl}
use Rattle.std.specs.Fmt.{digits}
use Rattle.rf_sample.specs.Sample.{function, quotation, structure, loop_over, form, forms_from, sample}

-- the samples of one form and of two have 98 bytes and 129
one : length (sample 1) ≡ 98
unfolding digits sample forms_from form function
one = refl

two : length (sample 2) ≡ 129
unfolding digits sample forms_from form function quotation
two = refl

-- the source of one form, and what the three after it add, each behind an empty line
first : sample 1 ≡ codes "#lang racket/base\n\n(define (f0 x y) (cond [(< x 0) (g0 x y)] [else (let ([z (+ x 0)]) (h z y))]))\n"
unfolding digits sample forms_from form function
first = refl

second : forms_from 1 1 ≡ codes "\n; note 1\n(define t1 '(1 2 3))\n"
unfolding digits forms_from form quotation
second = refl

third : forms_from 2 1 ≡ codes "\n(struct s2 (a b c) #:transparent)\n"
unfolding digits forms_from form structure
third = refl

fourth : forms_from 3 1 ≡ codes "\n(for ([i (in-range 3)]) (displayln (list i 3)))\n"
unfolding digits forms_from form loop_over
fourth = refl

-- then the first kind comes again
fifth : forms_from 4 1 ≡ codes "\n(define (f4 x y) (cond [(< x 4) (g4 x y)] [else (let ([z (+ x 4)]) (h z y))]))\n"
unfolding digits forms_from form function
fifth = refl
