use Rattle.std.proofs.Common.{Some, None, codes}
use Rattle.std.proofs.lemmas.Bool.Decides.{Decides-eqb}
use Rattle.std.proofs.lemmas.Slice.Eq.{strip_prefix_is}
use Rattle.slip.proofs.Chains.{no_part, no_rest, both_read, no_word, word_read}
use Rattle.slip.proofs.GroupTexts.{group_ends}
use Rattle.slip.proofs.Scored.{behind_level, behind_denomination, behind_doubling, behind_declarer, behind_space, behind_tricks, not_scored, is_scored}
use Rattle.slip.proofs.reader.read_scored.Goals as goal

pub returns-in_err-doubling : goal.returns-in_err-doubling
returns-in_err-doubling c =
    rw c.from_residual-in_err-doubling.ensures
    (not_scored (no_rest behind_level (λ _ _. tt) c.in_ok-level.ensures
    (no_rest behind_denomination (λ _ _. tt) c.in_ok-denomination.ensures
    (no_part behind_doubling (λ _ _. tt) c.in_err-doubling.ensures))))

pub returns-in_err-declarer : goal.returns-in_err-declarer
returns-in_err-declarer c =
    rw c.from_residual-in_err-declarer.ensures
    (not_scored (no_rest behind_level (λ _ _. tt) c.in_ok-level.ensures
    (no_rest behind_denomination (λ _ _. tt) c.in_ok-denomination.ensures
    (no_rest behind_doubling (λ _ _. tt) c.in_ok-doubling.ensures
    (no_part behind_declarer (λ _ _. tt) c.in_err-declarer.ensures)))))

pub returns-in_err-rest : goal.returns-in_err-rest
returns-in_err-rest c =
    let none = strip_prefix_is Decides-eqb c.in_ok-declarer.rest.now (codes " ") None c.in_err-rest.ensures.cases in
    rw c.from_residual-in_err-rest.ensures
    (not_scored (no_rest behind_level (λ _ _. tt) c.in_ok-level.ensures
    (no_rest behind_denomination (λ _ _. tt) c.in_ok-denomination.ensures
    (no_rest behind_doubling (λ _ _. tt) c.in_ok-doubling.ensures
    (no_rest behind_declarer (λ _ _. tt) c.in_ok-declarer.ensures
    (no_word (codes " ") behind_space none))))))

pub returns-in_err-tricks : goal.returns-in_err-tricks
returns-in_err-tricks c =
    let space = strip_prefix_is Decides-eqb c.in_ok-declarer.rest.now (codes " ") (Some c.in_ok-rest.rest) c.in_ok-rest.ensures.cases in
    rw c.from_residual-in_err-tricks.ensures
    (not_scored (no_rest behind_level (λ _ _. tt) c.in_ok-level.ensures
    (no_rest behind_denomination (λ _ _. tt) c.in_ok-denomination.ensures
    (no_rest behind_doubling (λ _ _. tt) c.in_ok-doubling.ensures
    (no_rest behind_declarer (λ _ _. tt) c.in_ok-declarer.ensures
    (word_read (codes " ") behind_space space
    (no_part behind_tricks (λ g _. group_ends g) c.in_err-tricks.ensures)))))))

pub returns-in_err-group : goal.returns-in_err-group
returns-in_err-group c =
    let space = strip_prefix_is Decides-eqb c.in_ok-declarer.rest.now (codes " ") (Some c.in_ok-rest.rest) c.in_ok-rest.ensures.cases in
    rw c.from_residual-in_err-group.ensures
    (not_scored (no_rest behind_level (λ _ _. tt) c.in_ok-level.ensures
    (no_rest behind_denomination (λ _ _. tt) c.in_ok-denomination.ensures
    (no_rest behind_doubling (λ _ _. tt) c.in_ok-doubling.ensures
    (no_rest behind_declarer (λ _ _. tt) c.in_ok-declarer.ensures
    (word_read (codes " ") behind_space space
    (no_rest behind_tricks (λ g _. group_ends g) c.in_ok-tricks.ensures c.in_err-group.ensures)))))))

pub returns : goal.returns
returns c =
    let space = strip_prefix_is Decides-eqb c.in_ok-declarer.rest.now (codes " ") (Some c.in_ok-rest.rest) c.in_ok-rest.ensures.cases in
    is_scored _ _ (both_read behind_level (λ _ _. tt) c.in_ok-level.ensures
    (both_read behind_denomination (λ _ _. tt) c.in_ok-denomination.ensures
    (both_read behind_doubling (λ _ _. tt) c.in_ok-doubling.ensures
    (both_read behind_declarer (λ _ _. tt) c.in_ok-declarer.ensures
    (word_read (codes " ") behind_space space
    (both_read behind_tricks (λ g _. group_ends g) c.in_ok-tricks.ensures c.in_ok-group.ensures))))))
