use Rattle.oref_table.proofs.objects.Objects.add_new.Goals as goal

pub add-requires-clause-free : goal.add-requires-clause-free
add-requires-clause-free c = λ x i a b. absurd (cc)
