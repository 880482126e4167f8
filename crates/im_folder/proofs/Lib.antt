mod Silent
