use Rattle.im_facts.proofs.clients.FactClient.take_line.Goals as goal

pub returns-clause-told : goal.returns-clause-told
returns-clause-told g c = λ known knows.
    let told = c.in_ok-taking.ensures.told known knows in
    (told.0, told.1, told.2, told.3)
